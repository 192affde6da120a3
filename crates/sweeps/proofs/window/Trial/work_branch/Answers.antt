-- `begin_branch` leaves the branch at its start, and `sweep_to_end` the branch worked out (`sweeps_stand_for`).
use Rattle.sweeps.specs.Inner.Windows.{work_of}
use Rattle.sweeps.proofs.BranchLaws.{begins_few, sweeps_few, sweeps_stand_for}
use Rattle.sweeps.proofs.window.Trial.work_branch.Goals as goal

pub sweep_to_end-requires-clause-few : goal.sweep_to_end-requires-clause-few
sweep_to_end-requires-clause-few c =
    let a = c.args in
    let b = c.begin_branch-closed in
    begins_few a.self a.v c.requires.is_value a.run.now _ c.requires.fits b.new.known b.result b.ensures

pub returns : goal.returns
returns c =
    let a = c.args in
    let b = c.begin_branch-closed in
    let d = c.sweep_to_end in
    let x = work_of d.new.known d.new.run d.result in
    let r = sweeps_stand_for a.self a.v c.requires.is_value a.run.now _ c.requires.fits b.new.known b.result b.ensures x d.ensures in record {
      closed = r.same_closed;
      counted = r.same_count;
      written = r.same_run;
      holds = r.holds;
      few = sweeps_few a.self a.v c.requires.is_value a.run.now _ c.requires.fits b.new.known b.result b.ensures x d.ensures;
    }

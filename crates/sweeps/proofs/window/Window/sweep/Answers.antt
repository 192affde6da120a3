-- The loop sweeps the frames by rising number, and the invariant says so: the branch is what the sweeps of the frames below `frame` make
-- of it, and the frames that are noted calm are. A calm frame that is left out is a sweep of it all the same, as the call ensures. The
-- sweeps of frames keep the tally (`frames-tally`), which each call asks for.
use native.Mathlib.Omega.{arith}
use mathlib.Core.Path.{◌≡◌, ◌∙◌, ap}
use Rattle.sweeps.specs.Inner.Work.{tally}
use Rattle.sweeps.specs.Inner.Windows.{circuit_of, stuck_lines, work_of}
use Rattle.sweeps.proofs.WorkLaws.{frames-tally}
use Rattle.sweeps.proofs.window.Window.sweep.Goals as goal

pub sweep_unless_calm-done-requires-clause-few : goal.sweep_unless_calm-done-requires-clause-few
sweep_unless_calm-done-requires-clause-few c =
    let a = c.args in
    let l = c.loop-frame in
    let first = work_of a.known.now a.run.now a.progress in
    let e : tally (work_of l.known l.run l.done) ≡ tally first = ap tally l.invariant.swept ∙ frames-tally (circuit_of a.self) (stuck_lines a.self) l.frame first in
    omega (arith, e, c.requires.few)

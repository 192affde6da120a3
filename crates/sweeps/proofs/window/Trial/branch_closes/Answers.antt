-- Behind `work_branch` the bytes are what is known in the branch, place by place (`branch-bytes`). A branch that is closed by contradiction
-- closes (`branch-shut`). An open one closes if its effect trace dies (`branch-dies`), for which the slice of what is touched is long enough.
use native.Mathlib.Omega.{arith}
use mathlib.Core.Path.{◌≡◌, ◌∙◌, sym}
use mathlib.Core.List.{◌++◌}
use lib.ListN.{length, length-append}
use Rattle.trace.specs.Inner.Tracing.{traced}
use Rattle.sweeps.specs.Inner.Windows.{places_in}
use Rattle.sweeps.proofs.BranchLaws.{branch-dies}
use Rattle.sweeps.proofs.window.Trial.branch_closes.Goals as goal

pub returns-clause-closes : goal.returns-clause-closes
returns-clause-closes c =
    let a = c.args in
    let d = c.work_branch in
    let t = c.effect_dies in
    let room : length (d.new.run ++ a.touched.now) ≡ places_in a.self.window = omega (arith, length-append d.new.run a.touched.now, d.auto.run, c.requires.fits.1) in
    branch-dies a.self a.v d.new.known d.ensures.holds (sym d.ensures.closed ∙ c.if-work_branch.false) (d.new.run ++ a.touched.now) (traced t.result t.new.touched) room t.ensures

-- The loop tries the lines of the pins' sources in order, and the invariant says so, with two facts about steps: there are as many as
-- before the pins or more, and where no more, nothing has changed. So while the code finds no step since before the output's line, that
-- line would still make none (`settled_stays`), which `try_pin` asks where it is told that the relation is settled.
use native.Mathlib.Omega.{arith}
use mathlib.Core.Path.{◌≡◌, ◌∙◌, ap}
use Rattle.sweeps.specs.Inner.Work.{tally}
use Rattle.sweeps.specs.Inner.Windows.{circuit_of, stuck_lines, work_of}
use Rattle.sweeps.proofs.WorkLaws.{pins-tally}
use Rattle.sweeps.proofs.sweep.Relation.try_pins.Goals as goal

pub try_pin-done-requires-clause-few : goal.try_pin-done-requires-clause-few
try_pin-done-requires-clause-few c =
    let a = c.args in
    let s = a.self in
    let w = work_of a.known.now a.run.now a.progress in
    let l = c.loop-pin in
    let here = work_of l.known l.run l.done in
    let same_tally : tally here ≡ tally w = ap tally l.invariant.tried ∙ pins-tally (circuit_of s.window) (stuck_lines s.window) s.node s.frame l.pin w in
    omega (arith, same_tally, c.requires.few)

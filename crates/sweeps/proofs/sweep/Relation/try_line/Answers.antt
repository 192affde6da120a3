-- A line that is a step, written and entered (`line-new`). Every other way out is found: the branch is closed, nothing is concluded, or
-- what is concluded is known already.
use Prim.Native.Nat.{ℕ, ◌+◌, ◌*◌}
use mathlib.Core.Path.{◌≡◌, ◌∙◌, ap}
use Rattle.sweeps.specs.Inner.Windows.{circuit_of, stuck_lines, work_of}
use Rattle.sweeps.proofs.WorkLaws.{line-new}
use Rattle.sweeps.proofs.sweep.Relation.try_line.Goals as goal

pub returns : goal.returns
returns c =
    let a = c.args in
    let s = a.self in
    let net = circuit_of s.window in
    let w = work_of a.known.now a.run.now a.progress in
    let step = c.conclude-step.result in
    let place : c.place_of-place.result ≡ step.frame * net.size + step.node =
    c.place_of-place.ensures ∙ ap (λ (x : ℕ). step.frame * x + step.node) s.window.counted in
    line-new net (stuck_lines s.window) s.node s.frame a.line w step c.conclude-step.ensures c.if-progress.false c.if-value-ge-UNKNOWN.false
    c.place_of-place.result place (λ z. c.if-byte_at-value.false (c.byte_at.ensures ∙ z))
    c.enter_value-closed.new.known c.put_step.new.run c.enter_value-closed.result c.enter_value-closed.ensures c.put_step.ensures

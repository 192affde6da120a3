use Prim.Native.Nat.{◌*◌, ◌+◌}
use lib.Dec.{eqb}
use Rattle.std.proofs.Common.{◌∙◌, ap, rules, sym, tests}
use Rattle.circuit.proofs.FaultLaws.{held_free}
use Rattle.circuit.specs.Fault.{held, lines_in}
use Rattle.values.specs.Lists.{at}
use Rattle.values.proofs.RangeLaws.{all_below}
use Rattle.sweeps.proofs.TrialLaws.{has_by_frames, has_nowhere}
use Rattle.sweeps.proofs.window.Window.holds_fault.Goals as goal

-- no node is held
pub returns-in_default : goal.returns-in_default
unfolding lines_in
returns-in_default c =
    let s = c.args.self in
    has_nowhere s.n s.fault s.c c.args.known.now (held_free _ (ap held (sym c.stuck_node.ensures) ∙ sym c.held.ensures ∙ c.in_default.is))

-- a node is held: then every frame is looked at
pub returns : goal.returns
unfolding lines_in
returns c =
    let a = c.args in
    let s = a.self in
    let u = c.in-Some.stuck in
    has_by_frames s.n s.fault s.c a.known.now u (ap held (sym c.stuck_node.ensures) ∙ sym c.held.ensures ∙ c.in-Some.is) _
    (all_below (λ t. eqb (at a.known.now (t * s.n + s.fault.node)) u) s.c _ _ _ c.all.ensures.ran (λ x b q k. search (rules, tests)))

use Prim.Native.Nat.{ℕ, ◌+◌, ◌*◌, ◌<◌}
use mathlib.Core.Path.{◌≡◌, ◌∙◌, subst, sym}
use Rattle.netlist.specs.Netlist.{net_of, source_of}
use Rattle.values.specs.Lists.{at}
use Rattle.knowledge.specs.Window.{pin_frame}
use Rattle.sweeps.specs.Inner.Windows.{circuit_of, stuck_lines, work_of}
use mathlib.Core.Bool.{◌&&◌, true}
use lib.Dec.{ltb}
use borrow.Author.Tests.{ltb-true}
use Rattle.values.proofs.BoolLaws.{and_left, and_right}
use Rattle.netlist.proofs.NetlistLaws.{pins-at, pins-length}
use Rattle.sweeps.proofs.KnownPinLaws.{known-pin}
use Rattle.sweeps.proofs.sweep.Relation.try_pin.Goals as goal

pub returns-then-source_keeps : goal.returns-then-source_keeps
unfolding net_of
returns-then-source_keeps c =
    let a = c.args in
    let s = a.self in
    let net = circuit_of s.window in
    let S = stuck_lines s.window in
    let w = work_of a.known.now a.run.now a.progress in
    let bytes = s.window.netlist.now in
    let frame = pin_frame (net.kind s.node) s.frame in
    let hk = subst (λ (x : ℕ). a.pin < x) (sym (pins-length bytes s.node)) c.requires.is_pin.0 in
    let e : frame * s.window.n + source_of bytes s.node a.pin ≡ frame * net.size + at (net.pins s.node) a.pin =
    λ i. frame * s.window.counted i + sym (pins-at bytes s.node a.pin c.requires.is_pin.0) i in
    let known = ltb (at a.known.now (frame * s.window.n + source_of bytes s.node a.pin)) 2 in
    let q : (a.settled && known) ≡ true = sym c.source_keeps.ensures ∙ c.if-source_keeps.true in
    let settled = c.requires.settled (and_left a.settled known q) in
    let hx = subst (λ (x : ℕ). at a.known.now x < 2) e (ltb-true _ 2 (and_right a.settled known q)) in
    sym (known-pin net S s.node s.frame a.pin w hk settled hx)

use mathlib.Core.Path.{◌≡◌, refl}
use native.Mathlib.Numerals.{add-one}
use Rattle.values.proofs.ListLaws.{every_more, every_fails}
use borrow.Author.Tests.{eq-eqb, ne_eqb}
use Rattle.netlist.specs.Netlist.{pair_joined, pair_start}
use mathlib.Core.Bool.{false, true}
use native.Mathlib.Omega.{arith}
use Rattle.values.specs.Lists.{every}
use Rattle.netlist.proofs.reader.pairs_joined.Goals as goal

pub loop-node-init : goal.loop-node-init
unfolding every pair_start
loop-node-init c = (omega arith, refl, refl)

pub returns-then-offset-start : goal.returns-then-offset-start
unfolding pair_joined
returns-then-offset-start c =
    let s = c.args.netlist.now in
    let l = c.loop-node in
    let apart : pair_joined s l.node ≡ false = rw (← c.offset_of-offset.ensures, ← l.invariant.2) (ne_eqb _ _ c.if-offset-start.true) in
    rw (every_fails (pair_joined s) _ l.node c.loop-node-test.true apart)

pub loop-node-preserved : goal.loop-node-preserved
unfolding pair_joined pair_start
loop-node-preserved c =
    let o = c.offset_of-offset.ensures in
    let l = c.loop-node in
    let s = c.args.netlist.now in
    let joined : pair_joined s l.node ≡ true = rw (← o, ← l.invariant.2) (eq-eqb _ _ c.if-offset-start.false) in
    (omega arith, every_more (pair_joined s) l.node l.invariant.1 joined, rw (add-one, o, c.length_of.ensures))

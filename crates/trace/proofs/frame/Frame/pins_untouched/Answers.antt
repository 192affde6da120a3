use Rattle.std.proofs.Common.{rules}
use Prim.Native.Nat.{ℕ}
use mathlib.Core.Path.{◌∙◌, ap}
use lib.Dec.{eqb}
use Rattle.circuit.specs.Fault.{lines_in}
use Rattle.netlist.specs.Netlist.{net_of}
use Rattle.values.specs.Lists.{at, every}
use Rattle.values.proofs.RangeLaws.{all_below}
use Rattle.trace.specs.Trace.{latched_touched}
use Rattle.trace.proofs.TouchedLaws.{latched_every, untouched_not}
use Rattle.trace.proofs.frame.Frame.pins_untouched.Goals as goal

pub returns : goal.returns
unfolding net_of
returns c =
    let s = c.args.self.now in
    let net = net_of s.netlist.now in
    let D = lines_in s.circuit in
    let v = at s.values.now in
    let ms = at c.args.touched.now in
    let test = λ (n : ℕ). eqb (latched_touched net D v ms n) 0 in
    all_below test c.node_count.result _ _ c.all.result c.all.ensures.ran (λ x b q h. search (rules, untouched_not)) ∙ ap (every test) c.node_count.ensures ∙ latched_every net D v ms

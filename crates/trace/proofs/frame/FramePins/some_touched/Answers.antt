use Rattle.std.proofs.Common.{rules}
use Prim.Native.Nat.{ℕ}
use mathlib.Core.Bool.{not}
use mathlib.Core.Path.{◌∙◌, ap}
use lib.Dec.{eqb}
use Rattle.circuit.specs.Fault.{lines_in}
use Rattle.netlist.specs.Netlist.{net_of, source_of}
use Rattle.values.specs.Lists.{any, at}
use Rattle.values.proofs.RangeLaws.{any_below}
use Rattle.trace.specs.Trace.{pin_touched}
use Rattle.trace.proofs.TouchedLaws.{read_count, some_pin}
use Rattle.trace.proofs.frame.FramePins.some_touched.Goals as goal

pub returns : goal.returns
returns c =
    let p = c.args.self.now in
    let bs = p.frame.netlist.now in
    let D = lines_in p.frame.circuit in
    let v = at p.frame.values.now in
    let ms = at p.touched.now in
    let test = λ (k : ℕ). not (eqb (pin_touched (net_of bs) D v ms p.node k (source_of bs p.node k)) 0) in
    any_below test c.count.result _ _ c.any.result c.any.ensures.ran (λ x b q h. search rules)
    ∙ ap (any test) (c.count.ensures ∙ read_count bs D v ms p.node)
    ∙ some_pin bs D v ms p.node

use Rattle.std.proofs.Common.{ap, rules, ◌∙◌}
use Rattle.netlist.specs.Netlist.{net_of}
use Rattle.values.proofs.RangeLaws.{any_below}
use Rattle.values.specs.Lists.{any}
use Rattle.witness.specs.Inner.Clocks.{output_differs}
use Rattle.witness.proofs.clocks.outputs_differ.Goals as goal

pub returns : goal.returns
unfolding net_of
returns c =
    let differ = output_differs (net_of c.args.netlist.now) c.args.faulty.now c.args.good.now in
    let n = c.node_count-n in
    any_below differ n.result _ _ _ c.any.ensures.ran (λ x b q h. search rules) ∙ ap (any differ) n.ensures

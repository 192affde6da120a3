use Rattle.std.proofs.Common.{rules}
use mathlib.Core.Path.{◌∙◌, ap}
use Rattle.netlist.specs.Netlist.{net_of}
use Rattle.values.specs.Lists.{every}
use Rattle.values.proofs.RangeLaws.{all_below}
use Rattle.trace.specs.Trace.{output_untouched}
use Rattle.trace.proofs.frame.Frame.outputs_untouched.Goals as goal

pub returns : goal.returns
unfolding net_of
returns c =
    let test = output_untouched (net_of c.args.self.now.netlist.now) c.args.touched.now in
    all_below test c.node_count.result _ _ c.all.result c.all.ensures.ran (λ x b q h. search rules) ∙ ap (every test) c.node_count.ensures

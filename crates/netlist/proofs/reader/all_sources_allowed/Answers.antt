use Rattle.std.proofs.Common.{rules, tests}
use Rattle.netlist.specs.Netlist.{sources_allowed}
use Rattle.values.proofs.RangeLaws.{all_below}
use Rattle.netlist.proofs.reader.all_sources_allowed.Goals as goal

pub returns : goal.returns
returns c = all_below (sources_allowed c.args.netlist.now) c.args.n _ _ _ c.all.ensures.ran (λ x b q k. search (rules, tests))

use Rattle.std.proofs.Common.{rules, tests}
use Rattle.netlist.specs.Netlist.{count_fits}
use Rattle.values.proofs.RangeLaws.{all_below}
use Rattle.netlist.proofs.reader.counts_fit.Goals as goal

pub returns : goal.returns
returns c = all_below (count_fits c.args.netlist.now) c.args.n _ _ _ c.all.ensures.ran (λ x b q k. search (rules, tests))

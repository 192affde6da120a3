use Rattle.std.proofs.Common.{rules, tests}
use Rattle.gates.proofs.KindLaws.{named_known}
use Rattle.netlist.specs.Netlist.{kind_known}
use Rattle.values.proofs.RangeLaws.{all_below}
use Rattle.netlist.proofs.reader.kinds_known.Goals as goal

pub returns : goal.returns
unfolding kind_known
returns c = all_below (kind_known c.args.netlist.now) c.args.n _ _ _ c.all.ensures.ran (λ x b q k. search (rules, tests, named_known))

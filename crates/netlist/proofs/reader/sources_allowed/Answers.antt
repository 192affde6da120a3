use Rattle.std.proofs.Common.{rules, tests}
use Rattle.netlist.specs.Netlist.{source_allowed, sources_allowed}
use Rattle.values.proofs.RangeLaws.{all_below}
use Rattle.netlist.proofs.reader.sources_allowed.Goals as goal

pub returns : goal.returns
unfolding sources_allowed
returns c =
    rw (← c.length_of.ensures)
    (all_below (source_allowed c.args.netlist.now c.args.node) _ _ _ _ c.all.ensures.ran (λ x b q k. search (rules, tests)))

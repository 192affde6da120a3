use Rattle.netlist.specs.Netlist.{net_of}
use Rattle.simulator.specs.Clock.{place_fits}
use Rattle.values.proofs.RangeLaws.{all_below}
use Rattle.std.proofs.Common.{rules}
use Rattle.simulator.proofs.clock.places_fit.Goals as goal

pub returns : goal.returns
returns c = all_below (place_fits (net_of c.args.netlist.now) c.args.first.now) c.args.n _ _ _ c.all.ensures.ran (λ x b q h. search rules)

use mathlib.Core.Path.{sym}
use Rattle.simulator.proofs.PinLaws.{function_stays}
use Rattle.simulator.proofs.clock.function_of.Goals as goal

pub returns-then-value_stays : goal.returns-then-value_stays
returns-then-value_stays g c =
    let i = c.loop-pin in
    let vs = g.P.PinValues.values c.args.pins.now in
    sym (function_stays c.args.gate i.value (c.value_stays.ensures c.if-value_stays.true) vs i.pin i.invariant.0 i.invariant.1)

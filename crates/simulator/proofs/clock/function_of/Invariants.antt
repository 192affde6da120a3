use Rattle.std.proofs.Common.{◌≡◌, ◌≤◌, length, drop}
use Rattle.gates.specs.Kind.{function_of}
use Rattle.simulator.proofs.clock.function_of.Given as goal

-- the value is that of the pins from this one on
abbrev pub invariant-loop-pin : goal.invariant-loop-pin
invariant-loop-pin g l =
    (l.pin ≤ length (g.P.PinValues.values l.pins)) × (function_of l.gate (drop l.pin (g.P.PinValues.values l.pins)) ≡ l.value)

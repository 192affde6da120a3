use Rattle.values.specs.Inner.Rewriting.{rewritten}
use mathlib.Core.Path.{◌≡◌}
use Rattle.simulator.specs.ClockLists.{clock_start}
use Rattle.netlist.specs.Netlist.{net_of}
use Rattle.witness.proofs.clocks.start_clock.Given as goal

abbrev pub invariant-loop-node : goal.invariant-loop-node
invariant-loop-node l = l.values ≡ rewritten (λ e. clock_start (net_of l.netlist) e l.latched) l.node l.initial.values

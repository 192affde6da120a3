use mathlib.Core.List.{◌++◌}
use mathlib.Core.Path.{◌≡◌}
use lib.ListN.{drop}
use Rattle.circuit.specs.Fault.{lines_in}
use Rattle.netlist.specs.Netlist.{net_of}
use Rattle.values.specs.Lists.{at, build}
use Rattle.trace.proofs.TraceAgreement.{touched_from}
use Rattle.trace.proofs.frame.Frame.touch_nodes.Given as goal

abbrev pub invariant-loop-node : goal.invariant-loop-node
invariant-loop-node l = l.touched ≡ build (touched_from (net_of l.self.netlist.now) (lines_in l.self.circuit) (at l.self.values.now) (at l.initial.touched)) l.node ++ drop l.node l.initial.touched

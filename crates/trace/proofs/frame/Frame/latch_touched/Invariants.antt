use mathlib.Core.Path.{◌≡◌}
use lib.ListN.{length}
use Rattle.trace.specs.Trace.{latched_touched}
use Rattle.values.specs.Lists.{at}
use Rattle.values.proofs.ListLaws.{Filled}
use Rattle.netlist.specs.Netlist.{net_of}
use Rattle.circuit.specs.Fault.{lines_in}
use Rattle.trace.proofs.frame.Frame.latch_touched.Given as goal

abbrev pub invariant-loop-node : goal.invariant-loop-node
invariant-loop-node l = Filled (latched_touched (net_of l.self.netlist.now) (lines_in l.self.circuit) (at l.self.values.now) (at l.touched)) 0 l.node l.next

abbrev pub invariant-loop-node-2 : goal.invariant-loop-node-2
invariant-loop-node-2 l =
    (length l.touched ≡ length l.initial.touched)
    × Filled (latched_touched (net_of l.self.netlist.now) (lines_in l.self.circuit) (at l.self.values.now) (at l.initial.touched)) 0 l.node l.touched

use Prim.Native.Nat.{◌<◌}
use native.Mathlib.Omega.{arith}
use borrow.Author.Tests.{lt-ltb}
use Rattle.netlist.proofs.NetlistLaws.{pins-length}
use Rattle.circuit.specs.Fault.{fault_exists}
use Rattle.netlist.specs.Netlist.{net_of}
use Rattle.circuit.proofs.fault.fault_exists.Goals as goal

pub returns-then-exists : goal.returns-then-exists
unfolding fault_exists net_of
returns-then-exists c =
    let below : c.args.fault.node < c.node_count.result = omega arith in
    rw (pins-length c.args.netlist.now _, ← c.length_of-count.ensures, ← c.node_count.ensures, lt-ltb _ _ below)
    (rw (← c.exists.ensures, c.if-exists.true))

pub returns-else-exists : goal.returns-else-exists
unfolding fault_exists net_of
returns-else-exists c =
    let below : c.args.fault.node < c.node_count.result = omega arith in
    rw (pins-length c.args.netlist.now _, ← c.length_of-count.ensures, ← c.node_count.ensures, lt-ltb _ _ below)
    (rw (← c.exists.ensures, c.if-exists.false))

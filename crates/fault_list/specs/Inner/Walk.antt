-- The walk through the fault list, as `fault_after` makes it for any bytes and any fault. For a fault that a sound netlist has, the next
-- one is that of the list (`next-sound` in WalkLaws).
use Rattle.std.specs.Prelude.{cond, None, Option, Some, ℕ, ltb, take}
use Rattle.circuit.specs.Fault.{site_byte}
use Rattle.netlist.specs.Netlist.{Net}
use Rattle.circuit.specs.declared.fault.Fault.{Fault}
use Rattle.circuit.specs.declared.fault.Site.TheVariants.{Whole}
use Rattle.fault_list.specs.Faults.{fault_after}

-- how many pins of a node a site's byte can name: below the byte that names the node itself
abbrev pub pin_numbers : ℕ
pin_numbers = site_byte Whole

-- the circuit with only those pins
unfoldable pub named : Net → Net
named net = record { size = net.size; kind = net.kind; pins = λ n. take pin_numbers (net.pins n) }

-- the fault that follows; one of a node that the circuit does not have is followed by itself
unfoldable pub next_fault : Net → Fault → Fault
next_fault net f = cond (ltb f.node net.size) (fault_after (named net) f) f

-- a fault of a node that the circuit has, and none for any other
abbrev pub listed : Net → Fault → Option Fault
listed net f = cond (ltb f.node net.size) (Some f) None

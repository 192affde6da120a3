-- THE STATEMENT of demand 3: what an accepted certificate says of a fault and c. Such a fault is c-cycle redundant by Definition 5 of
-- FIRES, which lets the good circuit start in any state.
use Rattle.std.specs.Prelude.{true, List, ◌≡◌, ◌+◌, ◌<◌, ℕ, drop, length}
use Rattle.simulator.specs.ClockLists.{ClockList, LatchedBits, latched_before, seen_at}
use Rattle.circuit.specs.Fault.{StuckLines, lines_of, none_stuck}
use Rattle.gates.specs.Kind.{is_output}
use Rattle.netlist.specs.Netlist.{Net, net_of}
use Rattle.circuit.specs.declared.fault.Fault.{Fault}

-- For every clock list, of any length, whatever inputs each clock is fed, and whatever values the faulty circuit has latched before
-- the first: at every clock of the list from clock c on, every output equals that of the good circuit. The good circuit takes the list's
-- clocks from c on and is started from the values LATCHED in the faulty one before clock c.
unfoldable pub EqualOutputs : Net → StuckLines → ℕ → Type 0
EqualOutputs net faulted c =
    (xs : List (List ℕ)) (l : List ℕ)
    → ClockList net xs
    → LatchedBits net l
    → (t n : ℕ)
    → c + t < length xs
    → n < net.size
    → is_output (net.kind n) ≡ true
    → seen_at net faulted xs l (c + t) n ≡ seen_at net none_stuck (drop c xs) (latched_before net faulted c xs l) t n

-- for a netlist's bytes and a fault
abbrev pub Redundant : List ℕ → Fault → ℕ → Type 0
Redundant netlist fault c = EqualOutputs (net_of netlist) (lines_of fault) c

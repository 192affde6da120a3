-- The faulty circuit and the good one, clock by clock: what the contracts of the functions that run them speak of. Nothing of what the
-- finder answers rests on it.
use Rattle.std.specs.Prelude.{true, List, ◌≡◌, ◌+◌, ◌<◌, ℕ, drop, length}
use Rattle.gates.specs.Kind.{is_output}
use Rattle.simulator.specs.ClockLists.{ClockList, latched_before, seen_at}
use Rattle.circuit.specs.Fault.{StuckLines, none_stuck}
use Rattle.netlist.specs.Netlist.{Net}
use Rattle.values.specs.Lists.{at}

-- two lists of seen values have the same at every output
unfoldable pub SameOutputs : Net → List ℕ → List ℕ → Type 0
SameOutputs net v w = (n : ℕ) → n < net.size → is_output (net.kind n) ≡ true → at v n ≡ at w n

module _ (net : Net) (faulted : StuckLines) where
  -- the faulty circuit, begun with l latched, and the good one, begun with m, show the same outputs at every clock of every clock list
  unfoldable pub Alike : List ℕ → List ℕ → Type 0
  Alike l m =
      (xs : List (List ℕ)) → ClockList net xs → (t n : ℕ) → t < length xs → n < net.size → is_output (net.kind n) ≡ true
      → seen_at net faulted xs l t n ≡ seen_at net none_stuck xs m t n

  -- the same from clock c on, where the good circuit then takes over what the faulty one has latched
  unfoldable pub AlikeFrom : ℕ → List ℕ → Type 0
  AlikeFrom c l =
      (xs : List (List ℕ)) → ClockList net xs → (t n : ℕ) → c + t < length xs → n < net.size → is_output (net.kind n) ≡ true
      → seen_at net faulted xs l (c + t) n ≡ seen_at net none_stuck (drop c xs) (latched_before net faulted c xs l) t n

-- 01, "Clock lists": a circuit that takes a list of clocks, each later clock step from what the one before latched.
-- A clock is a list with a 0 or 1 at the place of every input node; latched values are a list with a 0 or 1 at every flip-flop's place.
-- Places past a list's end count as 0.
use Rattle.std.specs.Prelude.{cond, true, List, [], ◌∷◌, ◌≡◌, ◌<◌, ℕ, get_or, take}
use Rattle.simulator.specs.Clock.{latched_list, seen_list}
use Rattle.circuit.specs.Fault.{StuckLines}
use Rattle.gates.specs.Kind.{is_flip_flop, is_input}
use Rattle.values.specs.Lists.{at}
use Rattle.netlist.specs.Netlist.{Net}

-- what a clock step is given: the latched value at a flip-flop, the clock's value at an input
unfoldable pub clock_start : Net → List ℕ → List ℕ → ℕ → ℕ
clock_start net x l n = cond (is_flip_flop (net.kind n)) (at l n) (at x n)

module _ (net : Net) (s : StuckLines) where
  -- one clock step, from the clock's inputs x and the latched values l: the seen values, and the newly latched ones
  unfoldable pub seen_after : List ℕ → List ℕ → List ℕ
  seen_after x l = seen_list net s (clock_start net x l)

  unfoldable pub latched_after : List ℕ → List ℕ → List ℕ
  latched_after x l = latched_list net s (at (seen_after x l))

  -- the seen values at each clock of a list, begun with l latched
  abbrev pub run : List (List ℕ) → List ℕ → List (List ℕ)
  run [] l = []
  run (x ∷ xs) l = seen_after x l ∷ run xs (latched_after x l)

  -- what is latched once the whole list has been taken
  abbrev pub latched_at_end : List (List ℕ) → List ℕ → List ℕ
  latched_at_end [] l = l
  latched_at_end (x ∷ xs) l = latched_at_end xs (latched_after x l)

  -- what is latched before clock t: at clock 0 the start
  abbrev pub latched_before : ℕ → List (List ℕ) → List ℕ → List ℕ
  latched_before t xs l = latched_at_end (take t xs) l

  -- the seen value of node n at clock t of the list; for an output node, also a faulted one, this is the output at that clock
  abbrev pub seen_at : List (List ℕ) → List ℕ → ℕ → ℕ → ℕ
  seen_at xs l t n = at (get_or (run xs l) t []) n

-- a 0 or 1 for every input node
unfoldable pub InputBits : Net → List ℕ → Type 0
InputBits net x = (n : ℕ) → n < net.size → is_input (net.kind n) ≡ true → at x n < 2

-- a 0 or 1 for every flip-flop
unfoldable pub LatchedBits : Net → List ℕ → Type 0
LatchedBits net l = (n : ℕ) → n < net.size → is_flip_flop (net.kind n) ≡ true → at l n < 2

-- a clock list: each clock has its inputs; it may be empty
pub data ClockList (net : Net) : List (List ℕ) → Type 0 where
  no_clocks : ClockList net []
  first_clock : {x : List ℕ} {xs : List (List ℕ)} → InputBits net x → ClockList net xs → ClockList net (x ∷ xs)

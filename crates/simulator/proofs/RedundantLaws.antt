-- What the statement says of clock 0, and that redundancy from clock c on is redundancy from every later clock on.
use mathlib.Core.Bool.{true}
use mathlib.Core.List.{List, [], ◌∷◌}
use mathlib.Core.Path.{◌≡◌}
use Prim.Native.Nat.{◌+◌, ◌<◌, suc, zero, ℕ}
use native.Mathlib.Nat.{suc-add, zero-add}
use native.Mathlib.Omega.{arith}
use lib.ListN.{length}
use Rattle.gates.specs.Kind.{is_output}
use Rattle.simulator.specs.Statement.{EqualOutputs}
use Rattle.simulator.proofs.RunLaws.{latched_after-binary}
use Rattle.simulator.specs.ClockLists.{ClockList, LatchedBits, first_clock, latched_after, no_clocks, seen_at}
use Rattle.circuit.specs.Fault.{StuckLines, none_stuck}
use Rattle.netlist.specs.Netlist.{Net}

module _ (net : Net) (faulted : StuckLines) where
  -- at c 0 the good circuit starts as the faulty one does: the same list is latched in both
  pub from_start : EqualOutputs net faulted 0 → (xs : List (List ℕ)) (l : List ℕ) → ClockList net xs → LatchedBits net l
      → (t n : ℕ) → t < length xs → n < net.size → is_output (net.kind n) ≡ true → seen_at net faulted xs l t n ≡ seen_at net none_stuck xs l t n
  unfolding EqualOutputs
  from_start h xs l p hl t n b k o =
      cc (zero-add t, h xs l p hl t n (omega arith) k o)

  -- one clock later: the list's other clocks, from what the faulty circuit has latched at its first
  one_later : (c : ℕ) → EqualOutputs net faulted c → EqualOutputs net faulted (suc c)
  unfolding EqualOutputs
  one_later c h [] l no_clocks hl t n b k o = absurd (omega arith)
  one_later c h (x ∷ xs) l (first_clock p r) hl t n b k o =
      rw suc-add (h xs (latched_after net faulted x l) r (latched_after-binary net faulted x l p hl) t n (omega arith) k o)

  -- any number of clocks later
  pub redundant-later : (c d : ℕ) → EqualOutputs net faulted c → EqualOutputs net faulted (d + c)
  redundant-later c zero h = rw zero-add h
  redundant-later c (suc d) h = rw suc-add (one_later (d + c) (redundant-later c d h))

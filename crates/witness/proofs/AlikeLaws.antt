-- The faulty circuit and the good one, clock by clock: a fault that is redundant keeps their outputs alike.
use mathlib.Core.List.{List, [], ◌∷◌}
use Prim.Native.Nat.{suc, ℕ}
use native.Mathlib.Nat.{suc-add, zero-add}
use native.Mathlib.Omega.{arith}
use Rattle.simulator.specs.ClockLists.{InputBits, LatchedBits, first_clock, latched_after, no_clocks, seen_after}
use Rattle.circuit.specs.Fault.{StuckLines, none_stuck}
use Rattle.netlist.specs.Netlist.{Net}
use Rattle.simulator.specs.Statement.{EqualOutputs}
use Rattle.witness.specs.Inner.Alike.{Alike, AlikeFrom, SameOutputs}

module _ (net : Net) (faulted : StuckLines) where
  -- what redundancy says of one start
  pub redundant_from : (c : ℕ) (l : List ℕ) → LatchedBits net l → EqualOutputs net faulted c → AlikeFrom net faulted c l
  unfolding EqualOutputs AlikeFrom
  redundant_from c l b h xs r = h xs l r b

  -- The faulty circuit takes a clock: one less is left.
  pub from_next : (c : ℕ) (x l : List ℕ) → InputBits net x → AlikeFrom net faulted (suc c) l → AlikeFrom net faulted c (latched_after net faulted x l)
  unfolding AlikeFrom
  from_next c x l p h xs r t n b k o = rw suc-add at (h (x ∷ xs) (first_clock p r) t n (omega arith) k o)

  -- None is left: the good circuit takes over.
  pub from_now : (l : List ℕ) → AlikeFrom net faulted 0 l → Alike net faulted l l
  unfolding Alike AlikeFrom
  from_now l h xs r t n b k o = rw zero-add at (h xs r t n (omega arith) k o)

  -- Both circuits take a clock: they show the same outputs, and go on alike from what each has latched.
  module _ (x l m : List ℕ) (p : InputBits net x) (h : Alike net faulted l m) where
    pub alike_now : SameOutputs net (seen_after net faulted x l) (seen_after net none_stuck x m)
    unfolding Alike SameOutputs
    alike_now n k o = h (x ∷ []) (first_clock p no_clocks) 0 n (omega arith) k o

    pub alike_next : Alike net faulted (latched_after net faulted x l) (latched_after net none_stuck x m)
    unfolding Alike
    alike_next xs r t n b k o = h (x ∷ xs) (first_clock p r) (suc t) n (omega arith) k o

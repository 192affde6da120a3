-- Laws of what a node's pins read, as the code walks them: by pin number, from the last pin on.
use mathlib.Core.List.{List, [], ◌∷◌}
use mathlib.Core.Bool.{Bool, cond, false, false≢true, true}
use mathlib.Core.Path.{◌∙◌, ◌≡◌, ap, refl, subst, sym}
use Prim.Native.Nat.{◌-◌, ◌<◌, ◌≤◌, suc, zero, ℕ}
use native.Mathlib.Nat.{zero-add}
use native.Mathlib.Omega.{arith}
use lib.Dec.{eqb}
use lib.ListN.{drop, drop_of_length-le, length, length-set, set}
use lib.Seq.{drop-cons, get_or-set_other, get_or-set_same}
use borrow.Author.Tests.{eqb-false, eqb-true}
use Rattle.values.proofs.ListLaws.{indexed-at, length-indexed}
use Rattle.netlist.proofs.NetlistLaws.{pins-at, pins-length}
use Rattle.simulator.specs.Clock.{pin_values}
use Rattle.circuit.specs.Fault.{StuckLines}
use Rattle.gates.specs.Kind.{controlling_of, function_of, join_of, unit_of}
use Rattle.values.specs.Lists.{at, indexed}
use Rattle.netlist.specs.Netlist.{Net, length_of, net_of, source_of}
use Rattle.gates.specs.Value.{stuck_or}
use Rattle.gates.specs.declared.kind.Gate.{Gate}
use Rattle.gates.specs.declared.kind.Gate.TheVariants.{And, Or, Wire, Xor}
use Rattle.gates.proofs.ValueLaws.{and_zero, or_one}
use Rattle.std.specs.Prelude.{Some, is_some, unwrap_or}

module _ (net : Net) (s : StuckLines) (v : ℕ → ℕ) (n : ℕ) where
  -- one value for each pin
  pub pin-count : length (pin_values net s v n) ≡ length (net.pins n)
  unfolding pin_values
  pin-count = length-indexed (λ k m. stuck_or (s.pin n k) (v m)) 0 (net.pins n)

  -- what pin k reads, in any circuit: its source's value, or its stuck value
  pub pin-reads : (k : ℕ) → k < length (net.pins n) → at (pin_values net s v n) k ≡ stuck_or (s.pin n k) (v (at (net.pins n) k))
  unfolding pin_values
  pin-reads k h = indexed-at (λ k m. stuck_or (s.pin n k) (v m)) 0 (net.pins n) k 0 h ∙ rw zero-add

-- a list with one element for each pin of a node, made of the pin's number and its source
module _ (bs : List ℕ) (f : ℕ → ℕ → ℕ) (n : ℕ) where
  pub length-by-pin : length (indexed f 0 ((net_of bs).pins n)) ≡ length_of bs n
  length-by-pin = length-indexed f 0 ((net_of bs).pins n) ∙ pins-length bs n

  pub by-pin-at : (k : ℕ) → k < length_of bs n → at (indexed f 0 ((net_of bs).pins n)) k ≡ f k (source_of bs n k)
  by-pin-at k h = indexed-at f 0 ((net_of bs).pins n) k 0 (omega (arith, pins-length bs n)) ∙ rw (zero-add, pins-at bs n k h)

-- what a node's pins read
module _ (bs : List ℕ) (s : StuckLines) (v : ℕ → ℕ) (n : ℕ) where
  pub length-pin_values : length (pin_values (net_of bs) s v n) ≡ length_of bs n
  unfolding pin_values
  length-pin_values = length-by-pin bs (λ k m. stuck_or (s.pin n k) (v m)) n

  pub pin_values-at : (k : ℕ) → k < length_of bs n → at (pin_values (net_of bs) s v n) k ≡ stuck_or (s.pin n k) (v (source_of bs n k))
  unfolding pin_values
  pin_values-at = by-pin-at bs (λ k m. stuck_or (s.pin n k) (v m)) n

pub ruleset pin_laws = (length-pin_values, pin_values-at)

-- the same with one pin taken to read another value
module _ (bs : List ℕ) (s : StuckLines) (v : ℕ → ℕ) (n a w : ℕ) where
  abbrev pub assumed_pins : List ℕ
  assumed_pins = set (pin_values (net_of bs) s v n) a w

  pub length_assumed : length assumed_pins ≡ length_of bs n
  length_assumed = simp length-set (length-pin_values bs s v n)

  pub assumed_at : (k : ℕ) → k < length_of bs n → at assumed_pins k ≡ cond (eqb k a) w (stuck_or (s.pin n k) (v (source_of bs n k)))
  assumed_at k h = go (eqb k a) refl
    where
      vs : List ℕ
      vs = pin_values (net_of bs) s v n

      go : (b : Bool) → eqb k a ≡ b → at (set vs a w) k ≡ cond b w (stuck_or (s.pin n k) (v (source_of bs n k)))
      go true e = rw (eqb-true k a e) (get_or-set_same vs a w 0 (omega (arith, length-pin_values bs s v n, eqb-true k a e)))
      go false e = get_or-set_other vs a k w 0 (eqb-false k a e) ∙ pin_values-at bs s v n k h

-- a gate's function of no pins
pub function_none : (g : Gate) (vs : List ℕ) → unit_of g ≡ function_of g (drop (length vs) vs)
function_none g vs = let h : length vs ≤ length vs = omega arith in rw (drop_of_length-le vs h)

-- one pin more in front
pub function_front : (g : Gate) (vs : List ℕ) (j : ℕ) → j < length vs → join_of g (at vs j) (function_of g (drop (suc j) vs)) ≡ function_of g (drop j vs)
function_front g vs j h = rw (drop-cons vs j 0 h)

-- the same where pins are counted down to 0
pub function_more : (g : Gate) (vs : List ℕ) (j : ℕ) → 0 < j → j ≤ length vs → join_of g (at vs (j - 1)) (function_of g (drop j vs)) ≡ function_of g (drop (j - 1) vs)
function_more g vs j h l =
    let e : suc (j - 1) ≡ j = omega arith in
    subst (λ (i : ℕ). join_of g (at vs (j - 1)) (function_of g (drop i vs)) ≡ function_of g (drop (j - 1) vs)) e (function_front g vs (j - 1) (omega arith))

-- a value that one more pin in front leaves as it is, all pins in front leave as it is
module _ (g : Gate) (w : ℕ) (stays : (v : ℕ) → join_of g v w ≡ w) where
  pub function_stays : (vs : List ℕ) (j : ℕ) → j ≤ length vs → function_of g (drop j vs) ≡ w → function_of g vs ≡ w
  function_stays vs zero h e = e
  function_stays [] (suc j) h e = absurd (omega arith)
  function_stays (v ∷ vs) (suc j) h e = rw (function_stays vs j (omega arith) e) (stays v)

-- so does an AND's 0 and an OR's 1
pub settled_stays : (g : Gate) (w v : ℕ) → controlling_of g ≡ Some w → join_of g v w ≡ w
settled_stays Wire w v e = absurd (false≢true (ap is_some e))
settled_stays And w v e = let z : 0 ≡ w = ap (λ o. unwrap_or o 0) e in rw (← z, and_zero v)
settled_stays Or w v e = let z : 1 ≡ w = ap (λ o. unwrap_or o 1) e in rw (← z, or_one v)
settled_stays Xor w v e = absurd (false≢true (ap is_some e))

-- a gate's function of a node's pins, one of them taken to read another value, where the last ones are joined
module _ (bs : List ℕ) (s : StuckLines) (v : ℕ → ℕ) (n a w : ℕ) (g : Gate) where
  -- the value is that of the pins from j on
  abbrev pub JoinedFrom : ℕ → ℕ → Type 0
  JoinedFrom j value = (j ≤ length_of bs n) × (value ≡ function_of g (drop j (assumed_pins bs s v n a w)))

  -- no pin is joined yet
  pub joined-none : JoinedFrom (length_of bs n) (unit_of g)
  joined-none = (omega arith, rw (← length_assumed bs s v n a w) (function_none g (assumed_pins bs s v n a w)))

  -- the pin in front of those that are joined is one of the node's, and the value is that of the pins behind it
  pub joined_behind : (j value : ℕ) → 0 < j → JoinedFrom j value → (j - 1 < length_of bs n) × (value ≡ function_of g (drop (suc (j - 1)) (assumed_pins bs s v n a w)))
  joined_behind j value h (l, e) = let back : suc (j - 1) ≡ j = omega (arith, h) in (omega (arith, h, l), rw back e)

  -- a value that stays is that of all pins
  pub joined-all : (j value : ℕ) → JoinedFrom j value → ((x : ℕ) → join_of g x value ≡ value) → value ≡ function_of g (assumed_pins bs s v n a w)
  joined-all j value (l, e) stays = sym (function_stays g value stays (assumed_pins bs s v n a w) j (omega (arith, l, length_assumed bs s v n a w)) (sym e))

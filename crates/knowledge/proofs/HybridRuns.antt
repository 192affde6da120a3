-- Hybrid runs: the stuck lines may be others at each clock. A run that is faulty below clock c and good from c on stands between the
-- faulty circuit and the good one.
use mathlib.Core.List.{List, [], ◌∷◌}
use mathlib.Core.Path.{◌∙◌, ◌≡◌, ap, refl}
use Prim.Native.Nat.{◌+◌, ◌<◌, ◌≤◌, suc, zero, ℕ}
use native.Mathlib.Nat.{le_of_suc-le-suc, not-suc-le-zero, suc-add, zero-add}
use native.Mathlib.Omega.{arith}
use lib.ListN.{drop, get_or, length}
use Rattle.knowledge.specs.Window.{present_below}
use Rattle.simulator.proofs.RunLaws.{Bits, SameAt, latched_after_agree, latched_after-binary, seen_after_agree, seen_after-binary}
use Rattle.simulator.specs.ClockLists.{ClockList, InputBits, LatchedBits, first_clock, latched_after, latched_before, no_clocks, run, seen_after}
use Rattle.circuit.specs.Fault.{StuckLines, none_stuck}
use Rattle.values.specs.Lists.{at}
use Rattle.netlist.specs.Netlist.{Net}

-- a sequence from its element c on
abbrev pub later : {A : Type 0} → ℕ → (ℕ → A) → ℕ → A
later zero X = X
later (suc c) X = later c (λ i. X (suc i))

-- S has the stuck lines of each clock, X its inputs; l is what is latched at the start
module _ (net : Net) where
  -- what is latched before clock t
  abbrev pub latched_in : (ℕ → StuckLines) → (ℕ → List ℕ) → List ℕ → ℕ → List ℕ
  latched_in S X l zero = l
  latched_in S X l (suc t) = latched_in (λ i. S (suc i)) (λ i. X (suc i)) (latched_after net (S 0) (X 0) l) t

  -- the seen values at clock t
  abbrev pub seen_in : (ℕ → StuckLines) → (ℕ → List ℕ) → List ℕ → ℕ → List ℕ
  seen_in S X l zero = seen_after net (S 0) (X 0) l
  seen_in S X l (suc t) = seen_in (λ i. S (suc i)) (λ i. X (suc i)) (latched_after net (S 0) (X 0) l) t

  -- each clock step starts from what the one before latched
  pub latched_in-next : (S : ℕ → StuckLines) (X : ℕ → List ℕ) (l : List ℕ) (t : ℕ) → latched_in S X l (suc t) ≡ latched_after net (S t) (X t) (latched_in S X l t)
  latched_in-next S X l zero = refl
  latched_in-next S X l (suc t) = latched_in-next (λ i. S (suc i)) (λ i. X (suc i)) (latched_after net (S 0) (X 0) l) t

  pub seen_in-step : (S : ℕ → StuckLines) (X : ℕ → List ℕ) (l : List ℕ) (t : ℕ) → seen_in S X l t ≡ seen_after net (S t) (X t) (latched_in S X l t)
  seen_in-step S X l zero = refl
  seen_in-step S X l (suc t) = seen_in-step (λ i. S (suc i)) (λ i. X (suc i)) (latched_after net (S 0) (X 0) l) t

  -- seen values are 0 and 1
  pub seen_in-binary : (S : ℕ → StuckLines) (X : ℕ → List ℕ) (l : List ℕ) → ((t : ℕ) → InputBits net (X t)) → LatchedBits net l → (t : ℕ) → Bits (at (seen_in S X l t))
  seen_in-binary S X l hx hl zero = seen_after-binary net (S 0) (X 0) l (hx 0) hl
  seen_in-binary S X l hx hl (suc t) =
      seen_in-binary (λ i. S (suc i)) (λ i. X (suc i)) (latched_after net (S 0) (X 0) l) (λ i. hx (suc i)) (latched_after-binary net (S 0) (X 0) l (hx 0) hl) t

  -- a run depends on its start at the places of flip-flops alone
  pub seen_in_agree : (S : ℕ → StuckLines) (X : ℕ → List ℕ) (l m : List ℕ) → SameAt net 2 (at l) (at m) → (t : ℕ) → seen_in S X l t ≡ seen_in S X m t
  seen_in_agree S X l m h zero = seen_after_agree net (S 0) (X 0) (X 0) l m (λ _ _ _. refl) h
  seen_in_agree S X l m h (suc t) =
      ap (λ (k : List ℕ). seen_in (λ i. S (suc i)) (λ i. X (suc i)) k t) (latched_after_agree net (S 0) (X 0) (X 0) l m (λ _ _ _. refl) h)

  -- a run from its clock c on is a run from what is latched there
  pub seen_in-later : (c : ℕ) (S : ℕ → StuckLines) (X : ℕ → List ℕ) (l : List ℕ) (t : ℕ) → seen_in S X l (c + t) ≡ seen_in (later c S) (later c X) (latched_in S X l c) t
  seen_in-later zero S X l t = rw zero-add
  seen_in-later (suc c) S X l t = rw suc-add (seen_in-later c (λ i. S (suc i)) (λ i. X (suc i)) (latched_after net (S 0) (X 0) l) t)

-- from clock c on a fault below c is absent; one below c + 1 is still present in the first clock
pub later_absent : (c : ℕ) (f : StuckLines) → later c (present_below c f) ≡ (λ (t : ℕ). none_stuck)
later_absent zero f = refl
later_absent (suc c) f = later_absent c f

pub later_once : (c : ℕ) (f : StuckLines) → later c (present_below (suc c) f) ≡ present_below 1 f
later_once zero f = refl
later_once (suc c) f = later_once c f

module _ (net : Net) where
  -- up to clock c both are the faulty run
  pub latched-below : (c : ℕ) (f : StuckLines) (X : ℕ → List ℕ) (l : List ℕ) → latched_in net (present_below c f) X l c ≡ latched_in net (λ (_ : ℕ). f) X l c
  latched-below zero f X l = refl
  latched-below (suc c) f X l = latched-below c f (λ i. X (suc i)) (latched_after net f (X 0) l)

  pub latched_through : (c : ℕ) (f : StuckLines) (X : ℕ → List ℕ) (l : List ℕ) → latched_in net (present_below (suc c) f) X l c ≡ latched_in net (λ (_ : ℕ). f) X l c
  latched_through zero f X l = refl
  latched_through (suc c) f X l = latched_through c f (λ i. X (suc i)) (latched_after net f (X 0) l)

  pub seen_through : (c : ℕ) (f : StuckLines) (X : ℕ → List ℕ) (l : List ℕ) → seen_in net (present_below (suc c) f) X l c ≡ seen_in net (λ (_ : ℕ). f) X l c
  seen_through zero f X l = refl
  seen_through (suc c) f X l = seen_through c f (λ i. X (suc i)) (latched_after net f (X 0) l)

  -- from clock c on: the good circuit, started from what the faulty one has latched; and the same with the fault at clock c
  pub good_from : (c : ℕ) (f : StuckLines) (X : ℕ → List ℕ) (l : List ℕ) (t : ℕ)
      → seen_in net (present_below c f) X l (c + t) ≡ seen_in net (λ (_ : ℕ). none_stuck) (later c X) (latched_in net (λ (_ : ℕ). f) X l c) t
  good_from c f X l t =
      seen_in-later net c (present_below c f) X l t
      ∙ (λ i. seen_in net (later_absent c f i) (later c X) (latched-below c f X l i) t)

  pub faulty_once : (c : ℕ) (f : StuckLines) (X : ℕ → List ℕ) (l : List ℕ) (t : ℕ)
      → seen_in net (present_below (suc c) f) X l (c + t) ≡ seen_in net (present_below 1 f) (later c X) (latched_in net (λ (_ : ℕ). f) X l c) t
  faulty_once c f X l t =
      seen_in-later net c (present_below (suc c) f) X l t
      ∙ (λ i. seen_in net (later_once c f i) (later c X) (latched_through c f X l i) t)

-- the inputs of clock t of a clock list
abbrev pub clock : List (List ℕ) → ℕ → List ℕ
clock xs t = get_or xs t []

pub later-clock : (c : ℕ) (xs : List (List ℕ)) → c ≤ length xs → later c (clock xs) ≡ clock (drop c xs)
later-clock zero xs h = refl
later-clock (suc c) [] h = absurd (not-suc-le-zero h)
later-clock (suc c) (x ∷ xs) h = later-clock c xs (le_of_suc-le-suc h)

pub clock-inputs : {net : Net} {xs : List (List ℕ)} → ClockList net xs → (t : ℕ) → InputBits net (clock xs t)
unfolding InputBits
clock-inputs no_clocks t = λ n h k. omega arith
clock-inputs (first_clock p r) zero = p
clock-inputs (first_clock p r) (suc t) = clock-inputs r t

-- the run of a clock list is a hybrid run whose stuck lines stay as they are
module _ (net : Net) (s : StuckLines) where
  pub run-clock : (xs : List (List ℕ)) (l : List ℕ) (t : ℕ) → t < length xs → get_or (run net s xs l) t [] ≡ seen_in net (λ (_ : ℕ). s) (clock xs) l t
  run-clock [] l t h = absurd (not-suc-le-zero h)
  run-clock (x ∷ xs) l zero h = refl
  run-clock (x ∷ xs) l (suc t) h = run-clock xs (latched_after net s x l) t (le_of_suc-le-suc h)

  pub latched-clock : (c : ℕ) (xs : List (List ℕ)) (l : List ℕ) → c ≤ length xs → latched_before net s c xs l ≡ latched_in net (λ (_ : ℕ). s) (clock xs) l c
  latched-clock zero xs l h = refl
  latched-clock (suc c) [] l h = absurd (not-suc-le-zero h)
  latched-clock (suc c) (x ∷ xs) l h = latched-clock c xs (latched_after net s x l) (le_of_suc-le-suc h)

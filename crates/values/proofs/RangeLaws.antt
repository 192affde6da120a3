-- What `all` and `any` over the numbers below a bound say, in the words of the definitions.
use Rattle.std.proofs.Common.{Bool, ◌&&◌, ◌||◌, ◌∙◌, ◌+◌, ◌-◌, ◌≡◌, List, ◌∷◌, length, add-zero, ap, arith, refl, suc, sym, true, false, zero, zero-add, ℕ}
use Rattle.std.proofs.Math.Bool.{and-true, and_assoc, or-false, or_assoc}
use Rattle.std.proofs.iter.Yields.{nat_range_steps}
use Rattle.std.proofs.lemmas.Iterator.{YieldsList-from_range}
use Rattle.std.proofs.lemmas.Iterator.Search.{all_from_yields_List, any_from_yields_List}
use Rattle.std.specs.Fn.{Called}
use Rattle.std.proofs.iter.runs.Sources.{nat_range_inclusive_steps}
use Rattle.std.proofs.lemmas.Iterator.Consumers.{YieldsList-from_shown}
use Rattle.std.proofs.lemmas.List.FromFn.{length-range_with_len}
use Rattle.std.specs.Iterator.{YieldsThen}
use Rattle.std.specs.Range.{range_inclusive_left, range_inclusive_len}
use Rattle.std.specs.List.{FoldsTo, list_all, list_any, range_with_len}
use Rattle.std.specs.Option.{MatchOption}
use Rattle.std.specs.declared.ops.Range.{Range}
use Rattle.std.specs.declared.ops.RangeInclusive.{RangeInclusive}
use Rattle.std.specs.Prelude.{Option, None, Some}
use Rattle.values.specs.Lists.{any, every}
use denote.Param.Members.{Mut}

-- the first number's test stands in front
every_front : (f : ℕ → Bool) (n : ℕ) → every f (suc n) ≡ (f 0 && every (λ k. f (suc k)) n)
unfolding every
every_front f zero = sym (and-true (f 0))
every_front f (suc n) = ap (λ b. b && f (suc n)) (every_front f n) ∙ and_assoc (f 0) (every (λ k. f (suc k)) n) (f (suc n))

pub any_front : (f : ℕ → Bool) (n : ℕ) → any f (suc n) ≡ (f 0 || any (λ k. f (suc k)) n)
unfolding any
any_front f zero = sym (or-false (f 0))
any_front f (suc n) = ap (λ b. b || f (suc n)) (any_front f n) ∙ or_assoc (f 0) (any (λ k. f (suc k)) n) (f (suc n))

-- one number more before the index, or behind the start
shifted : (a k : ℕ) → a + 1 + k ≡ a + suc k
shifted a k = omega arith

every_range : (f : ℕ → Bool) (a n : ℕ) → list_all f (range_with_len a n) ≡ every (λ k. f (a + k)) n
unfolding every
every_range f a zero = refl
every_range f a (suc n) =
    ap (λ b. f a && b) (every_range f (a + 1) n ∙ (λ i. every (λ k. f (shifted a k i)) n))
    ∙ (λ i. f (sym (add-zero a) i) && every (λ k. f (a + suc k)) n)
    ∙ sym (every_front (λ k. f (a + k)) n)

any_range : (f : ℕ → Bool) (a n : ℕ) → list_any f (range_with_len a n) ≡ any (λ k. f (a + k)) n
unfolding any
any_range f a zero = refl
any_range f a (suc n) =
    ap (λ b. f a || b) (any_range f (a + 1) n ∙ (λ i. any (λ k. f (shifted a k i)) n))
    ∙ (λ i. f (sym (add-zero a) i) || any (λ k. f (a + suc k)) n)
    ∙ sym (any_front (λ k. f (a + k)) n)

zero-sub : (n : ℕ) → n - 0 ≡ n
zero-sub n = omega arith

module _ {F : Type 0} {g : Mut F (ℕ × Unit {0}) Bool} where
  -- `(0..n).all(..)`, where the closure computes a test
  pub all_below : (test : ℕ → Bool) (n : ℕ) (u : Range ℕ) (f : F) (r : Bool)
      → (xs : List ℕ) × (o : Option ℕ) × (j : F) × YieldsThen nat_range_steps (record { start = 0; end = n }) xs o u
      × FoldsTo (λ p x q. Called g p (x, tt) true q) f xs j
      × MatchOption o (r ≡ true) (λ x. (r ≡ false) × ((h : F) × Called g j (x, tt) false h))
      → ((x : ℕ) (b : Bool) (q : F) → Called g f (x, tt) b q → (q ≡ f) × (b ≡ test x))
      → r ≡ every test n
  all_below test n u f r ran computes =
      all_from_yields_List test u f r ran (YieldsList-from_range 0 n n (λ i. record { start = 0; end = n }) (zero-sub n)) computes
      ∙ every_range test 0 n ∙ (λ i. every (λ k. test (zero-add k i)) n)

  -- and `(0..n).any(..)`
  pub any_below : (test : ℕ → Bool) (n : ℕ) (u : Range ℕ) (f : F) (r : Bool)
      → (xs : List ℕ) × (o : Option ℕ) × (j : F) × YieldsThen nat_range_steps (record { start = 0; end = n }) xs o u
      × FoldsTo (λ p x q. Called g p (x, tt) false q) f xs j
      × MatchOption o (r ≡ false) (λ x. (r ≡ true) × ((h : F) × Called g j (x, tt) true h))
      → ((x : ℕ) (b : Bool) (q : F) → Called g f (x, tt) b q → (q ≡ f) × (b ≡ test x))
      → r ≡ any test n
  any_below test n u f r ran computes =
      any_from_yields_List test u f r ran (YieldsList-from_range 0 n n (λ i. record { start = 0; end = n }) (zero-sub n)) computes
      ∙ any_range test 0 n ∙ (λ i. any (λ k. test (zero-add k i)) n)

-- Ranges with their end.

-- the numbers that a range with its end has left
abbrev left : RangeInclusive ℕ → ℕ
left = range_inclusive_left (λ a b. b - a)

abbrev through : RangeInclusive ℕ → List ℕ
through s = range_with_len s.start (left s)

through_end : (s t : RangeInclusive ℕ) → nat_range_inclusive_steps s None t → length (through s) ≡ 0
through_end s t p = length-range_with_len s.start (left s) ∙ p.1.0

through_next : (s : RangeInclusive ℕ) (x : ℕ) (t : RangeInclusive ℕ) → nat_range_inclusive_steps s (Some x) t → through s ≡ x ∷ through t
through_next s x t p = go t.exhausted refl
  where
    more : left s ≡ suc (left t)
    more = omega (arith, p.1.1)

    go : (b : Bool) → t.exhausted ≡ b → through s ≡ x ∷ through t
    go true e =
        let z : left t ≡ 0 = ap (range_inclusive_len (λ a b. b - a) t.start t.end) e in
        (λ i. range_with_len s.start (more i))
        ∙ (λ i. s.start ∷ range_with_len (s.start + 1) (z i))
        ∙ (λ i. sym p.1.0 i ∷ range_with_len t.start (sym z i))
    go false e = (λ i. range_with_len s.start (more i)) ∙ (λ i. sym p.1.0 i ∷ range_with_len (sym (p.1.2 e) i) (left t))

module _ {F : Type 0} {g : Mut F (ℕ × Unit {0}) Bool} where
  -- `(0..=n).any(..)`, where the closure computes a test
  pub any_through : (test : ℕ → Bool) (n : ℕ) {s : RangeInclusive ℕ} (u : RangeInclusive ℕ) (f : F) (r : Bool)
      → s.start ≡ 0 → s.end ≡ n → s.exhausted ≡ false
      → (xs : List ℕ) × (o : Option ℕ) × (j : F) × YieldsThen nat_range_inclusive_steps s xs o u
      × FoldsTo (λ p x q. Called g p (x, tt) false q) f xs j
      × MatchOption o (r ≡ false) (λ x. (r ≡ true) × ((h : F) × Called g j (x, tt) true h))
      → ((x : ℕ) (b : Bool) (q : F) → Called g f (x, tt) b q → (q ≡ f) × (b ≡ test x))
      → r ≡ any test (suc n)
  any_through test n {s} u f r start last fresh ran computes =
      let all : n - 0 + 1 - (0 - n) ≡ suc n = omega arith in
      any_from_yields_List test u f r ran (YieldsList-from_shown nat_range_inclusive_steps (λ x. x) through through_end through_next s) computes
      ∙ (λ i. list_any test (range_with_len (start i) (range_inclusive_len (λ a b. b - a) (start i) (last i) (fresh i))))
      ∙ ap (λ k. list_any test (range_with_len 0 k)) all
      ∙ any_range test 0 (suc n) ∙ (λ i. any (λ k. test (zero-add k i)) (suc n))

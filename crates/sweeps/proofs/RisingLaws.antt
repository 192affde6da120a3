-- What holds of anything that is done for 0, 1, .., n - 1 in turn.
use mathlib.Core.Logic.{◌⊎◌, inl, inr}
use mathlib.Core.Path.{◌∙◌, ◌≡◌, ap, refl, subst, sym}
use Prim.Native.Nat.{◌+◌, ◌<◌, ◌≤◌, suc, zero, ℕ}
use native.Mathlib.Decide.{dec_lt}
use native.Mathlib.Nat.{not-suc-le-zero}
use native.Mathlib.Numerals.{add-one}
use native.Mathlib.Omega.{arith}
use Rattle.sweeps.specs.Sweeps.{rising}

module _ {A : Type 0} (f : ℕ → A → A) where
  -- one more
  pub rising_more : (n : ℕ) (a : A) → rising f (n + 1) a ≡ f n (rising f n a)
  unfolding rising
  rising_more n a = rw add-one

  -- what each keeps, all keep
  pub rising_keeps : (Q : A → Type 0) (n : ℕ) → ((i : ℕ) → i < n → (a : A) → Q a → Q (f i a)) → (a : A) → Q a → Q (rising f n a)
  unfolding rising
  rising_keeps Q zero k a q = q
  rising_keeps Q (suc n) k a q = k n (omega arith) (rising f n a) (rising_keeps Q n (λ i h. k i (omega arith)) a q)

  -- where nothing changes from i on, the rest may be left out
  pub rising_stops : (i n : ℕ) (a : A) → i ≤ n → ((j : ℕ) → i ≤ j → f j (rising f i a) ≡ rising f i a) → rising f n a ≡ rising f i a
  unfolding rising
  rising_stops i zero a h k = let z : i ≡ 0 = omega arith in rw z
  rising_stops i (suc n) a h k = go (dec_lt n i) (λ l. rising_stops i n a l k)
    where
      go : Dec (n < i) → (i ≤ n → rising f n a ≡ rising f i a) → f n (rising f n a) ≡ rising f i a
      go (yes p) r = let z : i ≡ suc n = omega arith in subst (λ (m : ℕ). rising f (suc n) a ≡ rising f m a) (sym z) refl
      go (no p) r = ap (f n) (r (omega arith)) ∙ k n (omega arith)

  -- the first by itself, and then the others
  pub rising-first : (n : ℕ) (a : A) → rising f (suc n) a ≡ rising (λ (i : ℕ). f (suc i)) n (f 0 a)
  unfolding rising
  rising-first zero a = refl
  rising-first (suc n) a = ap (f (suc n)) (rising-first n a)

-- Where each of them either changes nothing or counts up.
module _ {A : Type 0} (f : ℕ → A → A) (made : A → ℕ) (moves : (i : ℕ) (a : A) → (f i a ≡ a) ⊎ (made a < made (f i a))) where
  -- so do all together
  pub rising_moves : (n : ℕ) (a : A) → (rising f n a ≡ a) ⊎ (made a < made (rising f n a))
  unfolding rising
  rising_moves zero a = inl refl
  rising_moves (suc n) a = go (rising_moves n a) (moves n (rising f n a))
    where
      go : (rising f n a ≡ a) ⊎ (made a < made (rising f n a)) → (f n (rising f n a) ≡ rising f n a) ⊎ (made (rising f n a) < made (f n (rising f n a)))
          → (f n (rising f n a) ≡ a) ⊎ (made a < made (f n (rising f n a)))
      go (inl p) (inl q) = inl (q ∙ p)
      go (inl p) (inr q) = inr (subst (λ (x : A). made x < made (f n (rising f n a))) p q)
      go (inr p) (inl q) = inr (subst (λ (x : A). made a < made x) (sym q) p)
      go (inr p) (inr q) = inr (omega arith)

  -- where nothing was counted nothing has changed,
  pub rising_unmoved : (n : ℕ) (a : A) → made (rising f n a) ≡ made a → rising f n a ≡ a
  rising_unmoved n a e = go (rising_moves n a)
    where
      go : (rising f n a ≡ a) ⊎ (made a < made (rising f n a)) → rising f n a ≡ a
      go (inl p) = p
      go (inr p) = absurd (omega arith)

  -- and no one of them changes anything
  pub rising-still : (n : ℕ) (a : A) → rising f n a ≡ a → (i : ℕ) → i < n → f i a ≡ a
  unfolding rising
  rising-still zero a e i h = absurd (not-suc-le-zero h)
  rising-still (suc n) a e i h = go (rising_moves n a) (moves n (rising f n a)) (dec_lt i n) (λ p l. rising-still n a p i l)
    where
      last : made (f n (rising f n a)) ≡ made a
      last = ap made e

      go : (rising f n a ≡ a) ⊎ (made a < made (rising f n a)) → (f n (rising f n a) ≡ rising f n a) ⊎ (made (rising f n a) < made (f n (rising f n a)))
          → Dec (i < n) → (rising f n a ≡ a → i < n → f i a ≡ a) → f i a ≡ a
      go (inl p) m (yes l) k = k p l
      go (inl p) m (no l) k = let z : i ≡ n = omega arith in (λ j. f (z j) (sym p j)) ∙ e
      go (inr p) (inl q) d k = absurd (omega (arith, last, ap made q))
      go (inr p) (inr q) d k = absurd (omega (arith, last))

-- where no one of them changes anything, nothing changes
pub rising_idle : {A : Type 0} (f : ℕ → A → A) (n : ℕ) (a : A) → ((i : ℕ) → i < n → f i a ≡ a) → rising f n a ≡ a
unfolding rising
rising_idle f zero a k = refl
rising_idle f (suc n) a k = ap (f n) (rising_idle f n a (λ i h. k i (omega arith))) ∙ k n (omega arith)

-- what is done to two things in step keeps a relation between them
pub rising_together : {A B : Type 0} (f : ℕ → A → A) (g : ℕ → B → B) (R : A → B → Type 0) (n : ℕ) → ((i : ℕ) → i < n → (a : A) (b : B) → R a b → R (f i a) (g i b))
    → (a : A) (b : B) → R a b → R (rising f n a) (rising g n b)
unfolding rising
rising_together f g R zero k a b r = r
rising_together f g R (suc n) k a b r = k n (omega arith) (rising f n a) (rising g n b) (rising_together f g R n (λ i h. k i (omega arith)) a b r)

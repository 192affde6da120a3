-- Laws of the values of a line.
use mathlib.Core.Bool.{false, false≢true, not, true, true≢false}
use mathlib.Core.Path.{◌≡◌, refl}
use Prim.Native.Nat.{◌<◌, ◌≤◌, suc, zero, ℕ}
use native.Mathlib.Omega.{arith}
use lib.Dec.{eqb}
use Rattle.gates.specs.Value.{and₂, differ, is_unknown, neg, or₂, stuck_or, xor₂}

pub stuck-known : (s v : ℕ) → s < 2 → stuck_or s v ≡ s
stuck-known zero v h = refl
stuck-known (suc zero) v h = refl
stuck-known (suc (suc s)) v h = absurd (omega arith)

pub stuck-free : (s v : ℕ) → 2 ≤ s → stuck_or s v ≡ v
stuck-free zero v h = absurd (omega arith)
stuck-free (suc zero) v h = absurd (omega arith)
stuck-free (suc (suc s)) v h = refl

-- a line whose value is unknown is not stuck: a value that it is given is its value
pub unknown_free : (s v w : ℕ) → is_unknown (stuck_or s v) ≡ true → w ≡ stuck_or s w
unknown_free zero v w e = absurd (false≢true e)
unknown_free (suc zero) v w e = absurd (false≢true e)
unknown_free (suc (suc s)) v w e = refl

pub neg_unknown : (v : ℕ) → 2 ≤ v → neg v ≡ 2
neg_unknown zero h = absurd (omega arith)
neg_unknown (suc zero) h = absurd (omega arith)
neg_unknown (suc (suc v)) h = refl

pub and_zero : (v : ℕ) → and₂ v 0 ≡ 0
and_zero zero = refl
and_zero (suc zero) = refl
and_zero (suc (suc v)) = refl

pub and_unknown : (v w : ℕ) → 2 ≤ v → 1 ≤ w → and₂ v w ≡ 2
and_unknown zero w h g = absurd (omega arith)
and_unknown (suc zero) w h g = absurd (omega arith)
and_unknown (suc (suc v)) zero h g = absurd (omega arith)
and_unknown (suc (suc v)) (suc w) h g = refl

pub or_one : (v : ℕ) → or₂ v 1 ≡ 1
or_one zero = refl
or_one (suc zero) = refl
or_one (suc (suc v)) = refl

pub or_unknown : (v w : ℕ) → 2 ≤ v → (w ≡ 1 → ⊥) → or₂ v w ≡ 2
or_unknown zero w h g = absurd (omega arith)
or_unknown (suc zero) w h g = absurd (omega arith)
or_unknown (suc (suc v)) zero h g = refl
or_unknown (suc (suc v)) (suc zero) h g = absurd (g refl)
or_unknown (suc (suc v)) (suc (suc w)) h g = refl

pub xor_unknown : (v w : ℕ) → 2 ≤ v → xor₂ v w ≡ 2
xor_unknown zero w h = absurd (omega arith)
xor_unknown (suc zero) w h = absurd (omega arith)
xor_unknown (suc (suc v)) w h = refl

-- values differ where both are known and not equal
pub differ-known : (v w : ℕ) → v < 2 → w < 2 → not (eqb v w) ≡ differ v w
differ-known zero zero h g = refl
differ-known zero (suc zero) h g = refl
differ-known zero (suc (suc w)) h g = absurd (omega arith)
differ-known (suc zero) zero h g = refl
differ-known (suc zero) (suc zero) h g = refl
differ-known (suc zero) (suc (suc w)) h g = absurd (omega arith)
differ-known (suc (suc v)) w h g = absurd (omega arith)

pub differ_unknown_first : (v w : ℕ) → 2 ≤ v → differ v w ≡ false
differ_unknown_first zero w h = absurd (omega arith)
differ_unknown_first (suc zero) w h = absurd (omega arith)
differ_unknown_first (suc (suc v)) w h = refl

pub differ_unknown : (v w : ℕ) → 2 ≤ w → differ v w ≡ false
differ_unknown v zero h = absurd (omega arith)
differ_unknown v (suc zero) h = absurd (omega arith)
differ_unknown zero (suc (suc w)) h = refl
differ_unknown (suc zero) (suc (suc w)) h = refl
differ_unknown (suc (suc v)) (suc (suc w)) h = refl

pub unknown_high : (v : ℕ) → 2 ≤ v → is_unknown v ≡ true
unknown_high zero h = absurd (omega arith)
unknown_high (suc zero) h = absurd (omega arith)
unknown_high (suc (suc v)) h = refl

pub known-low : (v : ℕ) → v < 2 → is_unknown v ≡ false
known-low zero h = refl
known-low (suc zero) h = refl
known-low (suc (suc v)) h = absurd (omega arith)

-- a value is known where it is 0 or 1, unknown from 2 on
pub known_is : (v : ℕ) → is_unknown v ≡ false → v < 2
known_is zero e = omega arith
known_is (suc zero) e = omega arith
known_is (suc (suc v)) e = absurd (true≢false e)

pub unknown_is : (v : ℕ) → is_unknown v ≡ true → 2 ≤ v
unknown_is zero e = absurd (false≢true e)
unknown_is (suc zero) e = absurd (false≢true e)
unknown_is (suc (suc v)) e = omega arith

-- two values differ where both are known and they are not the same
pub record Differing (v w : ℕ) : Type 0 where
  pub left_known : v < 2
  pub right_known : w < 2
  pub apart : v ≡ w → ⊥

pub differing : (v w : ℕ) → differ v w ≡ true → Differing v w
differing zero zero e = absurd (false≢true e)
differing zero (suc zero) e = record { left_known = omega arith; right_known = omega arith; apart = λ q. omega arith }
differing zero (suc (suc w)) e = absurd (false≢true e)
differing (suc zero) zero e = record { left_known = omega arith; right_known = omega arith; apart = λ q. omega arith }
differing (suc zero) (suc w) e = absurd (false≢true e)
differing (suc (suc v)) w e = absurd (false≢true e)

-- nothing differs from itself; a known value differs from its opposite alone
pub differ_same : (v : ℕ) → differ v v ≡ false
differ_same zero = refl
differ_same (suc zero) = refl
differ_same (suc (suc v)) = refl

pub differ-opposite : (v : ℕ) → v < 2 → differ (neg v) v ≡ true
differ-opposite zero h = refl
differ-opposite (suc zero) h = refl
differ-opposite (suc (suc v)) h = absurd (omega arith)

pub opposite-differ : (v w : ℕ) → differ v w ≡ true → v ≡ neg w
opposite-differ zero zero e = absurd (false≢true e)
opposite-differ zero (suc zero) e = refl
opposite-differ zero (suc (suc w)) e = absurd (false≢true e)
opposite-differ (suc zero) zero e = refl
opposite-differ (suc zero) (suc w) e = absurd (false≢true e)
opposite-differ (suc (suc v)) w e = absurd (false≢true e)

pub neg-neg : (v : ℕ) → v < 2 → neg (neg v) ≡ v
neg-neg zero h = refl
neg-neg (suc zero) h = refl
neg-neg (suc (suc v)) h = absurd (omega arith)

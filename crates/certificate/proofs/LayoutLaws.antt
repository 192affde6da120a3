-- The certificate's layout, test by test.
use mathlib.Core.Bool.{◌&&◌, true}
use mathlib.Core.List.{List}
use mathlib.Core.Path.{◌∙◌, ◌≡◌, ap, refl, sym}
use Prim.Native.Nat.{◌%◌, ◌*◌, ◌+◌, ◌<◌, ◌≤◌, suc, zero, ℕ}
use native.Mathlib.Omega.{arith}
use lib.Dec.{eqb, leb}
use lib.ListN.{length}
use Rattle.std.proofs.lemmas.List.{get_or-drop}
use Rattle.values.specs.Lists.{at, u16_at, u32_at}
use Rattle.certificate.specs.Certificate.{fault_of, head_length, pairs_right, rest_of, run_length, run_offset}
use Rattle.certificate.specs.Inner.Reading.{head_of}
use Rattle.certificate.specs.declared.layout.Head.{Head}

module _ (bs : List ℕ) where
  -- what stands behind the fault, read from the certificate's start on
  behind : (k p : ℕ) → p ≡ 4 + k → at bs p ≡ at (rest_of bs) k
  behind k p e = ap (at bs) e ∙ sym (get_or-drop 4 bs k 0)

  number_behind : (k p : ℕ) → p ≡ 4 + k → u32_at bs p ≡ u32_at (rest_of bs) k
  number_behind k p e =
      let one = behind (k + 1) (p + 1) (omega (arith, e)) in
      let two = behind (k + 2) (p + 2) (omega (arith, e)) in
      let three = behind (k + 2 + 1) (p + 2 + 1) (omega (arith, e)) in
      λ i. behind k p e i + 256 * one i + 65536 * (two i + 256 * three i)

  -- the head, read place by place
  pub head_by : ◌≡◌ {A = Head}
      (record { fault = fault_of bs; c = at bs 4; f = at bs 5; node = u16_at bs 6; frame = at bs 8 }) (head_of bs)
  head_by =
      let place : (k : ℕ) → at bs (4 + k) ≡ at (rest_of bs) k = λ k. behind k (4 + k) refl in
      λ i. record { fault = fault_of bs; c = place 0 i; f = place 1 i; node = place 2 i + 256 * place 3 i; frame = place 4 i }

  -- the pair of branch v, read at its place
  pub offset_by : (v p : ℕ) → p ≡ 9 + 8 * v → u32_at bs p ≡ run_offset bs v
  offset_by v p e = number_behind (5 + 8 * v) p (omega (arith, e))

  pub length_by : (v p : ℕ) → p ≡ 9 + 8 * v → u32_at bs (p + 4) ≡ run_length bs v
  length_by v p e = number_behind (9 + 8 * v) (p + 4) (omega (arith, e))

-- the two pairs are right, where they were read one by one
pub pairs-by : (bs : List ℕ) (start first middle second : ℕ) → start ≡ run_offset bs 0 → first ≡ run_length bs 0 → middle ≡ run_offset bs 1 → second ≡ run_length bs 1
    → (eqb start head_length && (eqb middle (head_length + first) && (eqb (length bs) (middle + second) && (eqb (first % 7) 0 && eqb (second % 7) 0)))) ≡ pairs_right bs
unfolding pairs_right
pairs-by bs start first middle second es ef em ez =
    λ i. eqb (es i) head_length && (eqb (em i) (head_length + ef i) && (eqb (length bs) (em i + ez i) && (eqb (ef i % 7) 0 && eqb (ez i % 7) 0)))

-- where the layout is right, both runs stand within the certificate
pub runs-within : (bs : List ℕ) → (leb head_length (length bs) && pairs_right bs) ≡ true → (v : ℕ) → v < 2 → run_offset bs v + run_length bs v ≤ length bs
unfolding pairs_right
runs-within bs e zero h = grind arith
runs-within bs e (suc zero) h = grind arith
runs-within bs e (suc (suc v)) h = absurd (omega arith)

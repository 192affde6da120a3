-- The certificate's bytes: how many they are, and that they are read back as what was written.
use mathlib.Core.Bool.{◌&&◌, true}
use mathlib.Core.List.{List, [], ◌++◌, ◌∷◌, append-nil}
use mathlib.Core.Path.{◌∙◌, ◌≡◌, ap, refl, sym}
use Prim.Native.Nat.{◌%◌, ◌*◌, ◌+◌, ◌/◌, ℕ}
use native.Mathlib.Nat.{mod-add-div, mul-div_cancel_left, mul-mod_right}
use native.Mathlib.Omega.{arith}
use lib.Dec.{eqb}
use lib.ListN.{drop, length, length-append}
use lib.Seq.{drop_at, drop-drop}
use borrow.Author.Tests.{eq-eqb}
use Rattle.circuit.proofs.FaultLaws.{site_read}
use Rattle.circuit.specs.declared.fault.Site.TheVariants.{Pin}
use Rattle.certificate.specs.Certificate.{c_of, f_of, fault_of, head_length, pairs_right, run_length, run_offset, split_frame, split_node, steps_in, steps_of}
use Rattle.certificate.specs.Inner.Reading.{head_of}
use Rattle.certificate.specs.declared.layout.Head.{Head}
use Rattle.certificate.specs.declared.step.Step.{Step}
use Rattle.certificate.specs.Written.{certificate_of, head_bytes, run_bytes, step_bytes}

-- a step takes 7 bytes
pub length_run : (ss : List Step) → length (run_bytes ss) ≡ 7 * length ss
unfolding run_bytes
length_run [] = refl
length_run (s ∷ ss) = omega (arith, length_run ss)

pub length_head : (h : Head) (l₀ l₁ : ℕ) → length (head_bytes h l₀ l₁) ≡ head_length
unfolding head_bytes
length_head h l₀ l₁ = refl

pub length-certificate : (h : Head) (r₀ r₁ : List Step) → length (certificate_of h r₀ r₁) ≡ head_length + 7 * length r₀ + 7 * length r₁
unfolding certificate_of
length-certificate h r₀ r₁ =
    length-append (head_bytes h (7 * length r₀) (7 * length r₁)) (run_bytes r₀ ++ run_bytes r₁)
    ∙ omega (arith, length_head h (7 * length r₀) (7 * length r₁), length-append (run_bytes r₀) (run_bytes r₁), length_run r₀, length_run r₁)

-- steps that are written behind others
pub run-append : (ss ts : List Step) → run_bytes (ss ++ ts) ≡ run_bytes ss ++ run_bytes ts
unfolding run_bytes
run-append [] ts = refl
run-append (s ∷ ss) ts = λ i. step_bytes s ++ run-append ss ts i

-- a run is read back, whatever stands behind it
pub run-read : (ss : List Step) (r : List ℕ) → steps_in (length ss) (run_bytes ss ++ r) ≡ ss
unfolding run_bytes steps_in
run-read [] r = refl
run-read (s ∷ ss) r =
    λ i. record { node = mod-add-div s.node 256 i; frame = s.frame; value = s.value; via = mod-add-div s.via 256 i; during = s.during } ∷ run-read ss r i

-- a number of four bytes is read back
u32_read : (x : ℕ) → x % 65536 % 256 + 256 * (x % 65536 / 256) + 65536 * (x / 65536 % 256 + 256 * (x / 65536 / 256)) ≡ x
u32_read x = rw (mod-add-div (x % 65536) 256, mod-add-div (x / 65536) 256) (mod-add-div x 65536)

-- 7 bytes are a step
pub sevenths : (x : ℕ) → 7 * x / 7 ≡ x
sevenths x = mul-div_cancel_left x (omega arith)

module _ (h : Head) (r₀ r₁ : List Step) where
  -- the head
  pub fault-read : ((k : ℕ) → h.fault.site ≡ Pin k → k ≡ 255 → ⊥) → fault_of (certificate_of h r₀ r₁) ≡ h.fault
  unfolding certificate_of head_bytes
  fault-read p = λ i. record { node = mod-add-div h.fault.node 256 i; site = site_read h.fault.site p i; stuck = h.fault.stuck }

  pub c_read : c_of (certificate_of h r₀ r₁) ≡ h.c
  unfolding certificate_of head_bytes
  c_read = refl

  pub f-read : f_of (certificate_of h r₀ r₁) ≡ h.f
  unfolding certificate_of head_bytes
  f-read = refl

  pub node-read : split_node (certificate_of h r₀ r₁) ≡ h.node
  unfolding certificate_of head_bytes
  node-read = mod-add-div h.node 256

  pub frame-read : split_frame (certificate_of h r₀ r₁) ≡ h.frame
  unfolding certificate_of head_bytes
  frame-read = refl

  -- all of it
  pub head_read : ((k : ℕ) → h.fault.site ≡ Pin k → k ≡ 255 → ⊥) → head_of (certificate_of h r₀ r₁) ≡ h
  head_read p = λ i. record { fault = fault-read p i; c = c_read i; f = f-read i; node = node-read i; frame = frame-read i }

  -- the pairs
  pub offset_zero_read : run_offset (certificate_of h r₀ r₁) 0 ≡ head_length
  unfolding certificate_of head_bytes
  offset_zero_read = refl

  pub length_zero_read : run_length (certificate_of h r₀ r₁) 0 ≡ 7 * length r₀
  unfolding certificate_of head_bytes
  length_zero_read = u32_read (7 * length r₀)

  pub offset_one_read : run_offset (certificate_of h r₀ r₁) 1 ≡ head_length + 7 * length r₀
  unfolding certificate_of head_bytes
  offset_one_read = u32_read (head_length + 7 * length r₀)

  pub length_one_read : run_length (certificate_of h r₀ r₁) 1 ≡ 7 * length r₁
  unfolding certificate_of head_bytes
  length_one_read = u32_read (7 * length r₁)

  pub pairs-read : pairs_right (certificate_of h r₀ r₁) ≡ true
  unfolding pairs_right
  pairs-read =
      let n : ℕ = length (certificate_of h r₀ r₁) in
      (λ i.
      eqb (offset_zero_read i) head_length
      && (eqb (offset_one_read i) (head_length + length_zero_read i)
      && (eqb n (offset_one_read i + length_one_read i)
      && (eqb (length_zero_read i % 7) 0 && eqb (length_one_read i % 7) 0))))
      ∙ rw (
        eq-eqb (head_length + 7 * length r₀) (head_length + 7 * length r₀) refl,
        eq-eqb n (head_length + 7 * length r₀ + 7 * length r₁) (length-certificate h r₀ r₁),
        mul-mod_right 7 (length r₀),
        mul-mod_right 7 (length r₁),
      )

  -- the runs
  first_run : drop head_length (certificate_of h r₀ r₁) ≡ run_bytes r₀ ++ run_bytes r₁
  unfolding certificate_of head_bytes
  first_run = refl

  second_run : drop (head_length + 7 * length r₀) (certificate_of h r₀ r₁) ≡ run_bytes r₁
  second_run =
      sym (drop-drop (7 * length r₀) head_length (certificate_of h r₀ r₁))
      ∙ ap (drop (7 * length r₀)) first_run
      ∙ drop_at (run_bytes r₀) (run_bytes r₁) (7 * length r₀) (length_run r₀)

  pub steps_zero_read : steps_of (certificate_of h r₀ r₁) 0 ≡ r₀
  unfolding steps_of
  steps_zero_read =
      (λ i. steps_in (length_zero_read i / 7) (drop (offset_zero_read i) (certificate_of h r₀ r₁)))
      ∙ (λ i. steps_in (sevenths (length r₀) i) (first_run i))
      ∙ run-read r₀ (run_bytes r₁)

  pub steps_one_read : steps_of (certificate_of h r₀ r₁) 1 ≡ r₁
  unfolding steps_of
  steps_one_read =
      (λ i. steps_in (length_one_read i / 7) (drop (offset_one_read i) (certificate_of h r₀ r₁)))
      ∙ (λ i. steps_in (sevenths (length r₁) i) ((second_run ∙ sym (append-nil (run_bytes r₁))) i))
      ∙ run-read r₁ []

-- A certificate that is written in three parts: a run, another straight after it, and then what stands before them.
use mathlib.Core.List.{List, ◌++◌, append_assoc}
use mathlib.Core.Path.{◌∙◌, ◌≡◌, ap, sym}
use Prim.Native.Nat.{◌*◌, ◌+◌, ◌≤◌, ℕ}
use native.Mathlib.Nat.{zero-add}
use native.Mathlib.Omega.{arith}
use lib.ListN.{drop, length, length-append, take}
use lib.Seq.{drop_at, length-sets, length-take-le, sets, sets-eq}
use Rattle.netlist.specs.Netlist.{Net}
use Rattle.circuit.specs.declared.fault.Fault.{Fault}
use Rattle.certificate.specs.declared.step.Step.{Step}
use Rattle.values.proofs.SetsLaws.{sets-after}
use Rattle.certificate.specs.Certificate.{head_length}
use Rattle.certificate.proofs.WrittenLaws.{length-certificate, length_head, length_run}
use Rattle.sweeps.specs.Splits.{branch_of, certificate_for, head_for, step_count}
use Rattle.certificate.specs.Written.{written, certificate_of, head_bytes, run_bytes}
use Rattle.splits.specs.declared.split.Split.{Split}

-- a head before a run, written after it
pub head_before : (hs us l : List ℕ) → length hs + length us ≤ length l → sets (sets l (length hs) us) 0 hs ≡ written (hs ++ us) l
head_before hs us l h =
    let m = sets l (length hs) us in
    let d = drop (length hs + length us) l in
    let k : 0 + length hs ≤ length m = omega (arith, length-sets l (length hs) us) in
    sets-eq hs m 0 k
    ∙ ap (λ (n : ℕ). hs ++ drop n m) (zero-add (length hs))
    ∙ ap (λ (r : List ℕ). hs ++ drop (length hs) r) (sets-eq us l (length hs) h ∙ append_assoc (take (length hs) l) us d)
    ∙ ap (λ (r : List ℕ). hs ++ r) (drop_at (take (length hs) l) (us ++ d) (length hs) (length-take-le (length hs) l (omega arith)))
    ∙ sym (append_assoc hs us d)
    ∙ ap (λ (n : ℕ). (hs ++ us) ++ drop n l) (sym (length-append hs us))

-- two runs, the second straight after the first, and then the head before them
pub head_before_runs : (hs us vs l : List ℕ) → length hs + (length us + length vs) ≤ length l
    → sets (sets (sets l (length hs) us) (length hs + length us) vs) 0 hs ≡ written (hs ++ (us ++ vs)) l
head_before_runs hs us vs l h =
    ap (λ (m : List ℕ). sets m 0 hs) (sets-after us vs l (length hs)) ∙ head_before hs (us ++ vs) l (omega (arith, length-append us vs))

module _ (net : Net) (f : Fault) (F : ℕ) (s : Split) where
  abbrev r₀ : List Step
  r₀ = (branch_of net f F s 0).steps

  abbrev r₁ : List Step
  r₁ = (branch_of net f F s 1).steps

  pub certificate-length : length (certificate_for net f F s) ≡ head_length + 7 * step_count net f F s
  unfolding certificate_for step_count
  certificate-length = length-certificate (head_for f F s) r₀ r₁ ∙ omega arith

  -- the three writes: branch 0's steps behind the head, branch 1's straight after them, and the head
  pub certificate-written : (l : List ℕ) → head_length + (7 * length r₀ + 7 * length r₁) ≤ length l
      → sets (sets (sets l head_length (run_bytes r₀)) (head_length + 7 * length r₀) (run_bytes r₁)) 0 (head_bytes (head_for f F s) (7 * length r₀) (7 * length r₁))
      ≡ written (certificate_for net f F s) l
  unfolding certificate_for certificate_of
  certificate-written l h =
      let hs = head_bytes (head_for f F s) (7 * length r₀) (7 * length r₁) in
      let e : length hs ≡ head_length = length_head (head_for f F s) (7 * length r₀) (7 * length r₁) in
      let p = length_run r₀ in
      let k : length hs + (length (run_bytes r₀) + length (run_bytes r₁)) ≤ length l = omega (arith, length_run r₁) in
      (λ i. sets (sets (sets l (sym e i) (run_bytes r₀)) (sym e i + sym p i) (run_bytes r₁)) 0 hs) ∙ head_before_runs hs (run_bytes r₀) (run_bytes r₁) l k

-- A run, read step by step: what is left behind each step, and at the end.
use mathlib.Core.List.{List, [], ◌∷◌}
use mathlib.Core.Path.{◌∙◌, ◌≡◌, ap, sym}
use Prim.Native.Nat.{◌+◌, ◌-◌, ◌/◌, ◌<◌, ◌≤◌, suc, ℕ}
use native.Mathlib.Omega.{arith}
use Rattle.std.proofs.Common.{length-drop}
use lib.ListN.{drop, length, take}
use lib.Seq.{drop-drop, take_all}
use Rattle.certificate.specs.Certificate.{step_of, steps_in}
use Rattle.certificate.specs.Inner.Reading.{steps_left}
use Rattle.certificate.specs.declared.step.Step.{Step}

-- where 7 bytes are left, the next step is theirs, and the others follow behind it
pub steps_more : (run : List ℕ) (i : ℕ) (s : Step) → s ≡ step_of (take (length run - i) (drop i run)) → i + 7 ≤ length run → steps_left run i ≡ s ∷ steps_left run (i + 7)
unfolding steps_in
steps_more run i s q h =
    let e : (length run - i) / 7 ≡ suc ((length run - (i + 7)) / 7) = omega arith in
    let bytes : take (length run - i) (drop i run) ≡ drop i run = take_all (length run - i) (drop i run) (omega (arith, length-drop i run)) in
    let first : step_of (drop i run) ≡ s = ap step_of (sym bytes) ∙ sym q in
    ap (λ (k : ℕ). steps_in k (drop i run)) e ∙ (λ j. first j ∷ steps_in ((length run - (i + 7)) / 7) (drop-drop 7 i run j))

-- fewer are no step
pub steps_none : (run : List ℕ) (i : ℕ) → length run < i + 7 → steps_left run i ≡ []
unfolding steps_in
steps_none run i h = let e : (length run - i) / 7 ≡ 0 = omega arith in ap (λ (k : ℕ). steps_in k (drop i run)) e

-- Each conclusion is sound: the values of a model of the window are a shut set. So all that is concluded from true values is true.
use mathlib.Core.Bool.{Bool, ◌&&◌, false, true}
use mathlib.Core.List.{List}
use mathlib.Core.Path.{◌∙◌, ◌≡◌, ap, refl, sym}
use Prim.Native.Nat.{◌<◌, suc, zero, ℕ}
use native.Mathlib.Nat.{le_of_suc-le-suc, zero-add}
use native.Mathlib.Omega.{arith}
use lib.ListN.{get_or, length, set}
use lib.Seq.{set-get_or}
use Rattle.knowledge.proofs.Model.{Model}
use Rattle.knowledge.proofs.Monotone.{Shut}
use Rattle.knowledge.specs.Window.{conclusion, in_force, output_conclusion, pin_conclusion, pin_frame}
use Rattle.gates.proofs.GateLaws.{Refines}
use Rattle.values.proofs.ListLaws.{indexed-at}
use Rattle.gates.proofs.ValueLaws.{differing, stuck-free, unknown_is}
use Rattle.simulator.specs.Clock.{pin_values}
use Rattle.circuit.specs.Fault.{StuckLines}
use Rattle.gates.specs.Kind.{controlling, gate, rule_of}
use Rattle.values.specs.Lists.{at}
use Rattle.netlist.specs.Netlist.{Net}
use Rattle.gates.specs.Value.{differ, is_unknown, neg, stuck_or}

-- pin k is not w where w there would give another output than the one that the gate has
not_filled : (kind : ℕ) (vs : List ℕ) (y k w : ℕ) → y ≡ gate kind vs → differ (gate kind (set vs k w)) y ≡ true → get_or vs k w ≡ w → ⊥
not_filled kind vs y k w e d q = (differing (gate kind (set vs k w)) y d).apart (ap (gate kind) (ap (set vs k) (sym q) ∙ set-get_or vs k w) ∙ sym e)

-- what is not w is the other value, and what is not the other value is w
neg-other : (w p : ℕ) → p < 2 → (p ≡ w → ⊥) → Refines (neg w) p
neg-other zero zero h a = λ _. absurd (a refl)
neg-other zero (suc p) h a = λ _. omega arith
neg-other (suc zero) zero h a = λ _. refl
neg-other (suc zero) (suc p) h a = λ _. absurd (a (omega arith))
neg-other (suc (suc w)) p h a = λ k. absurd (omega arith)

other-neg : (w p : ℕ) → p < 2 → (p ≡ neg w → ⊥) → Refines w p
other-neg zero zero h a = λ _. refl
other-neg zero (suc p) h a = λ _. absurd (a (omega arith))
other-neg (suc zero) zero h a = λ _. absurd (a refl)
other-neg (suc zero) (suc p) h a = λ _. omega arith
other-neg (suc (suc w)) p h a = λ k. absurd (omega arith)

choose : (u a b : Bool) (x y p : ℕ) → (u ≡ true → a ≡ true → Refines x p) → (u ≡ true → b ≡ true → Refines y p)
    → Refines (elim (u && a) [ true ↦ x | false ↦ elim (u && b) [ true ↦ y | false ↦ 2 ] ]) p
choose true true b x y p f g = f refl refl
choose true false true x y p f g = g refl refl
choose true false false x y p f g = λ k. absurd (omega arith)
choose false a b x y p f g = λ k. absurd (omega arith)

module _ (net : Net) (S : ℕ → StuckLines) (v : ℕ → ℕ → ℕ) (M : Model net S v) where
  -- a pin that is not stuck reads its source
  pin-reads : (n p k d : ℕ) → k < length (net.pins n) → is_unknown ((S p).pin n k) ≡ true → get_or (pin_values net (S p) (λ m. v m p) n) k d ≡ v (at (net.pins n) k) p
  unfolding pin_values
  pin-reads n p k d h u =
      indexed-at (λ k m. stuck_or ((S p).pin n k) (v m p)) 0 (net.pins n) k d h
      ∙ rw zero-add (stuck-free ((S p).pin n k) (v (at (net.pins n) k) p) (unknown_is ((S p).pin n k) u))

  pin-sound : (n t k : ℕ) → n < net.size → in_force net S n t ≡ true → k < length (net.pins n)
      → Refines (pin_conclusion net (S (pin_frame (net.kind n) t)) (λ m. v m (pin_frame (net.kind n) t)) n (v n t) k) (v (at (net.pins n) k) (pin_frame (net.kind n) t))
  unfolding pin_conclusion output_conclusion
  pin-sound n t k q r b =
      choose (is_unknown ((S p).pin n k)) (differ (gate (net.kind n) (set vs k w)) (v n t)) (differ (gate (net.kind n) (set vs k (neg w))) (v n t)) (neg w) w (v (at (net.pins n) k) p)
      (λ u e. neg-other w _ (M.binary _ _) (λ z. not_filled (net.kind n) vs (v n t) k w (M.keeps_relation n t q r) e (pin-reads n p k w b u ∙ z)))
      (λ u e. other-neg w _ (M.binary _ _) (λ z. not_filled (net.kind n) vs (v n t) k (neg w) (M.keeps_relation n t q r) e (pin-reads n p k (neg w) b u ∙ z)))
    where
      p : ℕ
      p = pin_frame (net.kind n) t

      w : ℕ
      w = controlling (rule_of (net.kind n)).gate

      vs : List ℕ
      vs = pin_values net (S p) (λ m. v m p) n

  -- THE law of conclusions: what a relation in force concludes from what is true is true
  conclusion-sound : (n t a : ℕ) → n < net.size → in_force net S n t ≡ true → a < suc (length (net.pins n))
      → Refines (conclusion net S v n t a).value (v (conclusion net S v n t a).node (conclusion net S v n t a).frame)
  unfolding conclusion
  conclusion-sound n t zero q r b = λ _. sym (M.keeps_relation n t q r)
  conclusion-sound n t (suc k) q r b = pin-sound n t k q r (le_of_suc-le-suc b)

  -- whatever the number of frames
  pub model_shut : (W : ℕ) → Shut net S W v
  model_shut W = record { has-held = M.keeps_held; has_concluded = λ n t a q g r b. conclusion-sound n t a q r b }

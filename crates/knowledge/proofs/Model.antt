-- Models of a window: values by node and frame that keep to its relations. The seen values of a hybrid run are one.
use mathlib.Core.Bool.{Bool, false, false≢true, true}
use mathlib.Core.List.{List}
use mathlib.Core.Path.{◌∙◌, ◌≡◌, ap, refl, subst, sym}
use Prim.Native.Nat.{◌<◌, ◌≤◌, suc, zero, ℕ}
use borrow.Author.Tests.{eqb-true, not-true}
use Rattle.knowledge.proofs.HybridRuns.{latched_in, latched_in-next, seen_in, seen_in-binary, seen_in-step}
use Rattle.knowledge.specs.Window.{has_relation, in_force, output_conclusion, pin_frame, held}
use Rattle.values.proofs.BoolLaws.{and_left, and_right}
use Rattle.simulator.proofs.ClockLaws.{Ordered, latched-at, seen_law, seen_by-gate, seen_by-given}
use Rattle.gates.proofs.GateLaws.{Refines, flip_flop_value, stuck_refines}
use Rattle.simulator.proofs.RunLaws.{start-latched}
use Rattle.gates.proofs.ValueLaws.{unknown_is}
use Rattle.simulator.specs.Clock.{latched_by, pin_values, seen_by}
use Rattle.simulator.specs.ClockLists.{InputBits, LatchedBits, clock_start, latched_after, seen_after}
use Rattle.circuit.specs.Fault.{StuckLines}
use Rattle.gates.specs.Kind.{gate, is_flip_flop, is_given, is_input}
use Rattle.values.specs.Lists.{at}
use Rattle.netlist.specs.Netlist.{Net}
use Rattle.gates.specs.Value.{is_unknown}

-- values of 0 and 1 that keep to what is held and to every relation in force
pub record Model (net : Net) (S : ℕ → StuckLines) (v : ℕ → ℕ → ℕ) : Type 0 where
  pub binary : (n t : ℕ) → v n t < 2
  pub keeps_held : (n t : ℕ) → n < net.size → Refines (held net S n t) (v n t)
  pub keeps_relation : (n t : ℕ) → n < net.size → in_force net S n t ≡ true
      → v n t ≡ output_conclusion net (S (pin_frame (net.kind n) t)) (λ m. v m (pin_frame (net.kind n) t)) n

-- a node that is no flip-flop and has a relation is not given
relation-gate : (k t : ℕ) → is_flip_flop k ≡ false → has_relation k t ≡ true → is_given k ≡ false
relation-gate k zero e r = not-true (is_given k) r
relation-gate k (suc t) e r = rw (not-true (is_input k) r, e)

-- a flip-flop has none at frame 0
no_relation : (k : ℕ) → is_flip_flop k ≡ true → has_relation k 0 ≡ true → ⊥
no_relation k e r = let q : k ≡ 2 = eqb-true k 2 e in false≢true (rw q at r)

module _ (net : Net) (o : Ordered net) (S : ℕ → StuckLines) (X : ℕ → List ℕ) (l : List ℕ) (hx : (t : ℕ) → InputBits net (X t)) (hl : LatchedBits net l) where
  v : ℕ → ℕ → ℕ
  v n t = at (seen_in net S X l t) n

  -- the law of the seen values, at clock t
  seen_at : (n t : ℕ) → n < net.size → v n t ≡ seen_by net (S t) (clock_start net (X t) (latched_in net S X l t)) (λ m. v m t) n
  unfolding v seen_after
  seen_at n t h =
      subst (λ (w : List ℕ). at w n ≡ seen_by net (S t) (clock_start net (X t) (latched_in net S X l t)) (at w) n) (sym (seen_in-step net S X l t))
      (seen_law net (S t) (clock_start net (X t) (latched_in net S X l t)) n o h)

  seen_held : (n t : ℕ) → n < net.size → Refines (held net S n t) (v n t)
  unfolding held seen_by
  seen_held n t h = rw (seen_at n t h) (stuck_refines ((S t).node n) _)

  -- a flip-flop shows what its pin read one clock before
  seen_flip_flop : (n t : ℕ) → n < net.size → net.kind n ≡ 2 → 2 ≤ (S (suc t)).node n → v n (suc t) ≡ at (pin_values net (S t) (λ m. v m t) n) 0
  unfolding v latched_by latched_after
  seen_flip_flop n t h e u =
      seen_at n (suc t) h
      ∙ seen_by-given net (S (suc t)) (clock_start net (X (suc t)) (latched_in net S X l (suc t))) (λ m. v m (suc t)) n u (rw e)
      ∙ start-latched net (X (suc t)) (latched_in net S X l (suc t)) n h e
      ∙ ap (λ (w : List ℕ). at w n) (latched_in-next net S X l t)
      ∙ latched-at net (S t) (at (seen_after net (S t) (X t) (latched_in net S X l t))) n h
      ∙ rw e (ap (λ (w : List ℕ). at (pin_values net (S t) (at w) n) 0) (sym (seen_in-step net S X l t)))

  -- any other node shows its gate's function of what its pins read
  seen_gate : (n t : ℕ) → n < net.size → is_given (net.kind n) ≡ false → 2 ≤ (S t).node n → v n t ≡ gate (net.kind n) (pin_values net (S t) (λ m. v m t) n)
  seen_gate n t h e u = seen_at n t h ∙ seen_by-gate net (S t) (clock_start net (X t) (latched_in net S X l t)) (λ m. v m t) n u e

  seen_relation : (n t : ℕ) → n < net.size → in_force net S n t ≡ true
      → v n t ≡ output_conclusion net (S (pin_frame (net.kind n) t)) (λ m. v m (pin_frame (net.kind n) t)) n
  unfolding in_force held output_conclusion
  seen_relation n t h r =
      go (is_flip_flop (net.kind n)) refl t (unknown_is ((S t).node n) (and_left (is_unknown ((S t).node n)) (has_relation (net.kind n) t) r))
      (and_right (is_unknown ((S t).node n)) (has_relation (net.kind n) t) r)
    where
      go : (b : Bool) → is_flip_flop (net.kind n) ≡ b → (t : ℕ) → 2 ≤ (S t).node n → has_relation (net.kind n) t ≡ true
          → v n t ≡ gate (net.kind n) (pin_values net (S (pin_frame (net.kind n) t)) (λ m. v m (pin_frame (net.kind n) t)) n)
      go true e zero u q = absurd (no_relation (net.kind n) e q)
      go true e (suc t) u q =
          let k : net.kind n ≡ 2 = eqb-true (net.kind n) 2 e in
          rw k (seen_flip_flop n t h k u ∙ sym (flip_flop_value (pin_values net (S t) (λ m. v m t) n)))
      go false e t u q = rw e (seen_gate n t h (relation-gate (net.kind n) t e q) u)

  -- a hybrid run is a model of its window
  pub run_model : Model net S (λ n t. at (seen_in net S X l t) n)
  unfolding v
  run_model = record { binary = λ n t. seen_in-binary net S X l hx hl t n; keeps_held = seen_held; keeps_relation = seen_relation }

-- More knowledge: what is concluded from less is concluded from more, where that is consistent.
use mathlib.Core.Bool.{Bool, ◌&&◌, false, false≢true, true}
use mathlib.Core.List.{List}
use mathlib.Core.Path.{◌≡◌, refl}
use Prim.Native.Nat.{◌<◌, suc, zero, ℕ}
use native.Mathlib.Omega.{arith}
use lib.ListN.{length, set}
use Rattle.knowledge.specs.Window.{conclusion, in_force, output_conclusion, pin_conclusion, pin_frame, held}
use Rattle.gates.proofs.GateLaws.{Refines, RefinesAll, controlling-low, gate_mono}
use Rattle.gates.proofs.RefinementLaws.{differ_mono, not_against_both, refines_agree, refines_trans, set_mono}
use Rattle.simulator.proofs.ClockLaws.{Ordered, pin_values_refines}
use Rattle.simulator.specs.Clock.{pin_values}
use Rattle.circuit.specs.Fault.{StuckLines}
use Rattle.gates.specs.Kind.{controlling, gate, rule_of}
use Rattle.values.specs.Lists.{at}
use Rattle.netlist.specs.Netlist.{Net}
use Rattle.gates.specs.Value.{differ, is_unknown, neg}

-- w knows all that v does of the nodes of a frame
abbrev pub MoreAt : Net → (ℕ → ℕ) → (ℕ → ℕ) → Type 0
MoreAt net v w = (n : ℕ) → n < net.size → Refines (v n) (w n)

-- kn' knows all that kn does, by node and frame
abbrev pub More : Net → (ℕ → ℕ → ℕ) → (ℕ → ℕ → ℕ) → Type 0
More net kn kn' = (n t : ℕ) → n < net.size → Refines (kn n t) (kn' n t)

-- the choice that pin_conclusion makes, where neither test loses what it has, and not both have it
chosen_mono : (u a b a' b' : Bool) (x y : ℕ) → (a ≡ true → a' ≡ true) → (b ≡ true → b' ≡ true) → (a' ≡ true → b' ≡ true → ⊥)
    → Refines (elim (u && a) [ true ↦ x | false ↦ elim (u && b) [ true ↦ y | false ↦ 2 ] ]) (elim (u && a') [ true ↦ x | false ↦ elim (u && b') [ true ↦ y | false ↦ 2 ] ])
chosen_mono false a b a' b' x y f g h = λ k. refl
chosen_mono true true b true b' x y f g h = λ k. refl
chosen_mono true true b false b' x y f g h = absurd (false≢true (f refl))
chosen_mono true false true true true x y f g h = absurd (h refl refl)
chosen_mono true false true false true x y f g h = λ k. refl
chosen_mono true false true a' false x y f g h = absurd (false≢true (g refl))
chosen_mono true false false a' b' x y f g h = λ k. absurd (omega arith)

-- s: the stuck lines in the frame of the pins; v and w: what is known there
module _ (net : Net) (o : Ordered net) (s : StuckLines) (v w : ℕ → ℕ) (more : MoreAt net v w) where
  pins_mono : (n : ℕ) → n < net.size → RefinesAll (pin_values net s v n) (pin_values net s w n)
  pins_mono n h = pin_values_refines net s v w n (o.within n h) more

  pub output_mono : (n : ℕ) → n < net.size → Refines (output_conclusion net s v n) (output_conclusion net s w n)
  unfolding output_conclusion
  output_mono n h = gate_mono (net.kind n) (pins_mono n h)

  -- of a pin, where the pins known by w do not contradict the output y
  pub pin_mono : (n x y k : ℕ) → n < net.size → Refines x y → differ (output_conclusion net s w n) y ≡ false → Refines (pin_conclusion net s v n x k) (pin_conclusion net s w n y k)
  unfolding pin_conclusion output_conclusion
  pin_mono n x y k h f d =
      chosen_mono (is_unknown (s.pin n k)) (against vs c x) (against vs (neg c) x) (against ws c y) (against ws (neg c) y) (neg c) c
      (against_mono c) (against_mono (neg c))
      (not_against_both (net.kind n) ws k y c (controlling-low (rule_of (net.kind n)).gate) d)
    where
      c : ℕ
      c = controlling (rule_of (net.kind n)).gate

      vs : List ℕ
      vs = pin_values net s v n

      ws : List ℕ
      ws = pin_values net s w n

      -- with z at pin k the output would be another than a
      against : List ℕ → ℕ → ℕ → Bool
      against us z a = differ (gate (net.kind n) (set us k z)) a

      against_mono : (z : ℕ) → against vs z x ≡ true → against ws z y ≡ true
      against_mono z =
          differ_mono (gate (net.kind n) (set vs k z)) x (gate (net.kind n) (set ws k z)) y (gate_mono (net.kind n) (set_mono (pins_mono n h) k z)) f

-- A set of values, by node and frame, that has the held ones and whatever its own conclusions give in a window of W frames: it is
-- consistent, and nothing new can be concluded from it.
pub record Shut (net : Net) (S : ℕ → StuckLines) (W : ℕ) (K : ℕ → ℕ → ℕ) : Type 0 where
  pub has-held : (n t : ℕ) → n < net.size → Refines (held net S n t) (K n t)
  pub has_concluded : (n t a : ℕ) → n < net.size → t < W → in_force net S n t ≡ true → a < suc (length (net.pins n))
      → Refines (conclusion net S K n t a).value (K (conclusion net S K n t a).node (conclusion net S K n t a).frame)

-- THE law of conclusions: what is concluded from a part of a shut set is in the set
pub conclusion_in : (net : Net) → Ordered net → (S : ℕ → StuckLines) (W : ℕ) (K : ℕ → ℕ → ℕ) → Shut net S W K → (kn : ℕ → ℕ → ℕ) → More net kn K
    → (n t a : ℕ) → n < net.size → t < W → in_force net S n t ≡ true → a < suc (length (net.pins n))
    → Refines (conclusion net S kn n t a).value (K (conclusion net S kn n t a).node (conclusion net S kn n t a).frame)
unfolding conclusion
conclusion_in net o S W K shut kn more n t zero h g r b =
    let p = pin_frame (net.kind n) t in
    refines_trans (output_conclusion net (S p) (λ m. kn m p) n) (output_conclusion net (S p) (λ m. K m p) n) (K n t)
    (output_mono net o (S p) (λ m. kn m p) (λ m. K m p) (λ m l. more m p l) n h)
    (shut.has_concluded n t 0 h g r b)
conclusion_in net o S W K shut kn more n t (suc k) h g r b =
    let p = pin_frame (net.kind n) t in
    refines_trans (pin_conclusion net (S p) (λ m. kn m p) n (kn n t) k) (pin_conclusion net (S p) (λ m. K m p) n (K n t) k) (K (at (net.pins n) k) p)
    (pin_mono net o (S p) (λ m. kn m p) (λ m. K m p) (λ m l. more m p l) n (kn n t) (K n t) k h (more n t h)
    (refines_agree (output_conclusion net (S p) (λ m. K m p) n) (K n t) (shut.has_concluded n t 0 h g r (omega arith))))
    (shut.has_concluded n t (suc k) h g r b)

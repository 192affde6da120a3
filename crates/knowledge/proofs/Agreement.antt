-- Conclusions depend on what is known within the window alone: nodes below N and frames below W.
use mathlib.Core.Bool.{Bool, ◌&&◌, cond, false, true}
use mathlib.Core.Path.{◌≡◌, ap}
use Prim.Native.Nat.{◌<◌, ◌≤◌, pred, suc, zero, ℕ}
use native.Mathlib.Omega.{arith}
use lib.ListN.{set}
use Rattle.knowledge.specs.Window.{conclusion, output_conclusion, pin_conclusion, pin_frame}
use Rattle.simulator.proofs.ClockLaws.{Ordered, pin_values_agree}
use Rattle.simulator.specs.Clock.{pin_values}
use Rattle.circuit.specs.Fault.{StuckLines}
use Rattle.gates.specs.Kind.{controlling, gate, is_flip_flop, rule_of}
use Rattle.values.specs.Lists.{at}
use Rattle.netlist.specs.Netlist.{Net}
use Rattle.gates.specs.Value.{differ, is_unknown, neg}

-- two functions agree at every node
abbrev pub SameNodes : Net → (ℕ → ℕ) → (ℕ → ℕ) → Type 0
SameNodes net v w = (n : ℕ) → n < net.size → v n ≡ w n

-- two functions of node and frame agree within a window of W frames
abbrev pub SameWindow : Net → ℕ → (ℕ → ℕ → ℕ) → (ℕ → ℕ → ℕ) → Type 0
SameWindow net W kn kn' = (n t : ℕ) → n < net.size → t < W → kn n t ≡ kn' n t

-- the frame of the pins is that of the relation, or the one before
pub pin_frame-within : (k t : ℕ) → pin_frame k t ≤ t
pin_frame-within k t = go (is_flip_flop k)
  where
    go : (b : Bool) → cond b (pred t) t ≤ t
    go true = let h : pred t ≤ t = omega arith in h
    go false = let h : t ≤ t = omega arith in h

-- so what holds of both holds of it
pub pin_frame_either : (k t : ℕ) (P : ℕ → Type 0) → P t → P (pred t) → P (pin_frame k t)
pin_frame_either k t P a b = go (is_flip_flop k)
  where
    go : (q : Bool) → P (cond q (pred t) t)
    go true = b
    go false = a

module _ (net : Net) (o : Ordered net) (s : StuckLines) (v w : ℕ → ℕ) (e : SameNodes net v w) where
  pub output_agree : (n : ℕ) → n < net.size → output_conclusion net s v n ≡ output_conclusion net s w n
  unfolding output_conclusion
  output_agree n h = ap (gate (net.kind n)) (pin_values_agree net s v w n (o.within n h) e)

  pub pin_agree : (n a b k : ℕ) → n < net.size → a ≡ b → pin_conclusion net s v n a k ≡ pin_conclusion net s w n b k
  unfolding pin_conclusion
  pin_agree n a b k h q =
      let c : ℕ = controlling (rule_of (net.kind n)).gate in
      let r : pin_values net s v n ≡ pin_values net s w n = pin_values_agree net s v w n (o.within n h) e in
      λ i.
      elim (is_unknown (s.pin n k) && differ (gate (net.kind n) (set (r i) k c)) (q i)) [
        | true ↦ neg c
        | false ↦ elim (is_unknown (s.pin n k) && differ (gate (net.kind n) (set (r i) k (neg c))) (q i)) [ true ↦ c | false ↦ 2 ]
      ]

-- A relation at frame t reads frame t and the one before: what it concludes depends on what is known there alone.
pub conclusion-frames : (net : Net) → Ordered net → (S : ℕ → StuckLines) (kn kn' : ℕ → ℕ → ℕ) (t : ℕ) → SameNodes net (λ m. kn m t) (λ m. kn' m t)
    → SameNodes net (λ m. kn m (pred t)) (λ m. kn' m (pred t))
    → (n a : ℕ) → n < net.size → conclusion net S kn n t a ≡ conclusion net S kn' n t a
unfolding conclusion
conclusion-frames net o S kn kn' t e f n zero h =
    let p : ℕ = pin_frame (net.kind n) t in
    let r = output_agree net o (S p) (λ m. kn m p) (λ m. kn' m p) (pin_frame_either (net.kind n) t (λ u. SameNodes net (λ m. kn m u) (λ m. kn' m u)) e f) n h in
    λ i. record { node = n; frame = t; value = r i; via = n; during = t }
conclusion-frames net o S kn kn' t e f n (suc k) h =
    let p : ℕ = pin_frame (net.kind n) t in
    let r = pin_agree net o (S p) (λ m. kn m p) (λ m. kn' m p) (pin_frame_either (net.kind n) t (λ u. SameNodes net (λ m. kn m u) (λ m. kn' m u)) e f) n (kn n t) (kn' n t) k h (e n h) in
    λ i. record { node = at (net.pins n) k; frame = p; value = r i; via = n; during = t }

-- THE law for conclusions
pub conclusion_agree : (net : Net) → Ordered net → (S : ℕ → StuckLines) (W : ℕ) (kn kn' : ℕ → ℕ → ℕ) → SameWindow net W kn kn'
    → (n t a : ℕ) → n < net.size → t < W → conclusion net S kn n t a ≡ conclusion net S kn' n t a
conclusion_agree net o S W kn kn' e n t a h l =
    let g : pred t < W = omega arith in
    conclusion-frames net o S kn kn' t (λ m q. e m t q l) (λ m q. e m (pred t) q g) n a h

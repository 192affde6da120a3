-- Laws of a window as the code walks it: the fault's frames, places in a work slice, a pin's conclusion test by test, and what a step or
-- a split does to a branch, by cases.
use mathlib.Core.Bool.{Bool, ◌&&◌, false, not, not-not, true}
use mathlib.Core.List.{List, [], ◌++◌, ◌∷◌}
use mathlib.Core.Path.{◌∙◌, ◌≡◌, ap, refl, sym}
use Prim.Native.Nat.{◌*◌, ◌+◌, ◌-◌, ◌<◌, ◌≤◌, suc, zero, ℕ}
use native.Mathlib.Nat.{add-zero}
use native.Mathlib.Omega.{arith}
use lib.ListN.{drop, replicate, set}
use lib.Seq.{get_or-drop}
use Rattle.knowledge.specs.Window.{Branch, begin, conclusion, enter, has_relation, known, line_frame, line_node, output_conclusion, pin_conclusion, pin_frame}
use Rattle.knowledge.specs.Inner.Slice.{known_in}
use Rattle.certificate.specs.declared.step.Step.{Step}
use Rattle.gates.proofs.ValueLaws.{known-low, unknown_high}
use Rattle.simulator.specs.Clock.{pin_values}
use Rattle.circuit.proofs.FaultLaws.{held_some}
use Rattle.circuit.specs.Fault.{StuckLines, held}
use Rattle.std.specs.Prelude.{is_some}
use Rattle.gates.specs.Kind.{controlling, gate, is_flip_flop, is_input, rule_of}
use Rattle.values.specs.Lists.{at}
use Rattle.netlist.specs.Netlist.{Net}
use Rattle.gates.specs.Value.{differ, is_unknown, neg}

-- what stands in a slice from a frame's first place on is what is known in that frame
pub frame-known : (l : List ℕ) (N t : ℕ) → at (drop (t * N + 0) l) ≡ (λ (m : ℕ). known_in l N m t)
frame-known l N t = λ i m. (get_or-drop (t * N + 0) l m 0 ∙ ap (λ (k : ℕ). at l (k + m)) (add-zero (t * N))) i

-- the same, where the slice, its place and the number of nodes are known by equations
pub frame_values : (l values : List ℕ) (place N M t : ℕ) → values ≡ drop place l → place ≡ t * N + 0 → N ≡ M → at values ≡ (λ (m : ℕ). known_in l M m t)
frame_values l values place N M t e p h = ap at e ∙ ap (λ (k : ℕ). at (drop k l)) p ∙ frame-known l N t ∙ (λ i m. known_in l (h i) m t)

-- a pin's conclusion, test by test
module _ (net : Net) (s : StuckLines) (v : ℕ → ℕ) (n o k : ℕ) where
  -- the controlling value, which is tried first
  abbrev pub tried : ℕ
  tried = controlling (rule_of (net.kind n)).gate

  -- with x at pin k the output would be another than o
  abbrev pub against : ℕ → Bool
  against x = differ (gate (net.kind n) (set (pin_values net s v n) k x)) o

  abbrev chosen : Bool → Bool → ℕ
  chosen a b = elim a [ true ↦ neg tried | false ↦ elim b [ true ↦ tried | false ↦ 2 ] ]

  by_tests : (u a b : Bool) → is_unknown (s.pin n k) ≡ u → against tried ≡ a → against (neg tried) ≡ b → chosen (u && a) (u && b) ≡ pin_conclusion net s v n o k
  unfolding pin_conclusion
  by_tests u a b e f g = sym (λ i. chosen (e i && f i) (e i && g i))

  pub conclusion-stuck : s.pin n k < 2 → 2 ≡ pin_conclusion net s v n o k
  conclusion-stuck h = by_tests false (against tried) (against (neg tried)) (known-low (s.pin n k) h) refl refl

  pub conclusion-first : 2 ≤ s.pin n k → against tried ≡ true → neg tried ≡ pin_conclusion net s v n o k
  conclusion-first h e = by_tests true true (against (neg tried)) (unknown_high (s.pin n k) h) e refl

  pub conclusion-second : 2 ≤ s.pin n k → against tried ≡ false → against (neg tried) ≡ true → tried ≡ pin_conclusion net s v n o k
  conclusion-second h e f = by_tests true false true (unknown_high (s.pin n k) h) e f

  pub conclusion-none : 2 ≤ s.pin n k → against tried ≡ false → against (neg tried) ≡ false → 2 ≡ pin_conclusion net s v n o k
  conclusion-none h e f = by_tests true false false (unknown_high (s.pin n k) h) e f

-- what a relation concludes, where its parts were worked out one by one: p is the frame of its pins, lines the stuck ones there, values
-- what is known there
module _ (net : Net) (S : ℕ → StuckLines) (l : List ℕ) (n t p N place : ℕ) (lines : StuckLines) (values : List ℕ) (hp : p ≡ pin_frame (net.kind n) t) (hN : N ≡ net.size)
    (hs : lines ≡ S p) (hq : place ≡ p * N + 0) (hv : values ≡ drop place l) where
  known-there : at values ≡ (λ (m : ℕ). known_in l net.size m (pin_frame (net.kind n) t))
  known-there = frame_values l values place N net.size p hv hq hN ∙ (λ i m. known_in l net.size m (hp i))

  stuck_there : lines ≡ S (pin_frame (net.kind n) t)
  stuck_there = hs ∙ ap S hp

  pub conclude_output : (v : ℕ) → v ≡ gate (net.kind n) (pin_values net lines (at values) n)
      → record { node = n; frame = t; value = v; via = n; during = t } ≡ conclusion net S (known_in l net.size) n t 0
  unfolding conclusion output_conclusion
  conclude_output v e = λ i. record { node = n; frame = t; value = (e ∙ (λ j. gate (net.kind n) (pin_values net (stuck_there j) (known-there j) n))) i; via = n; during = t }

  pub conclude_pin : (a m o v : ℕ) → (a ≡ 0 → ⊥) → m ≡ at (net.pins n) (a - 1) → o ≡ at l (t * N + n) → v ≡ pin_conclusion net lines (at values) n o (a - 1)
      → record { node = m; frame = p; value = v; via = n; during = t } ≡ conclusion net S (known_in l net.size) n t a
  unfolding conclusion
  conclude_pin zero m o v h em eo ev = absurd (h refl)
  conclude_pin (suc k) m o v h em eo ev =
      let q : suc k - 1 ≡ k = omega arith in
      λ i.
      record {
        node = (em ∙ ap (at (net.pins n)) q) i;
        frame = hp i;
        value = (ev ∙ (λ j. pin_conclusion net (stuck_there j) (known-there j) n ((eo ∙ ap (λ (x : ℕ). at l (t * x + n)) hN) j) (q j))) i;
        via = n;
        during = t;
      }

-- the lines of a relation
pub line-pin : (net : Net) (n a : ℕ) → (a ≡ 0 → ⊥) → at (net.pins n) (a - 1) ≡ line_node net n a
line-pin net n zero h = absurd (h refl)
line-pin net n (suc k) h = let q : suc k - 1 ≡ k = omega arith in ap (at (net.pins n)) q

pub line-pin-frame : (net : Net) (n t a : ℕ) → (a ≡ 0 → ⊥) → pin_frame (net.kind n) t ≡ line_frame net n t a
line-pin-frame net n t zero h = absurd (h refl)
line-pin-frame net n t (suc k) h = refl

pub conclusion-node : (net : Net) (S : ℕ → StuckLines) (kn : ℕ → ℕ → ℕ) (n t a : ℕ) → (conclusion net S kn n t a).node ≡ line_node net n a
unfolding conclusion
conclusion-node net S kn n t zero = refl
conclusion-node net S kn n t (suc k) = refl

pub conclusion-frame : (net : Net) (S : ℕ → StuckLines) (kn : ℕ → ℕ → ℕ) (n t a : ℕ) → (conclusion net S kn n t a).frame ≡ line_frame net n t a
unfolding conclusion
conclusion-frame net S kn n t zero = refl
conclusion-frame net S kn n t (suc k) = refl

-- a line that is not held has an unknown value
pub none_held : (s : ℕ) (r : Bool) → is_some (held s) ≡ not r → r ≡ is_unknown s
none_held s r e = sym (not-not r) ∙ ap not (sym e ∙ held_some s) ∙ not-not (is_unknown s)

-- what holds of a branch that a step was entered into, by whether its place was unknown; and of one that begins, by whether the split
-- contradicts a held value
module _ (net : Net) (S : ℕ → StuckLines) (P : Branch → Type 0) where
  pub enter-cases : (b : Branch) (s : Step)
      → (is_unknown (known net S b.values s.node s.frame) ≡ true → P (record { values = set b.values (s.frame * net.size + s.node) s.value; steps = b.steps ++ (s ∷ []); closed = false }))
      → (is_unknown (known net S b.values s.node s.frame) ≡ false → P (record { values = b.values; steps = b.steps ++ (s ∷ []); closed = true }))
      → P (enter net S b s)
  unfolding enter
  enter-cases b s new old = go (is_unknown (known net S b.values s.node s.frame)) refl
    where
      go : (q : Bool) → is_unknown (known net S b.values s.node s.frame) ≡ q
          → P
          (elim q [
            | true ↦ record { values = set b.values (s.frame * net.size + s.node) s.value; steps = b.steps ++ (s ∷ []); closed = false }
            | false ↦ record { values = b.values; steps = b.steps ++ (s ∷ []); closed = true }
          ])
      go true q = new q
      go false q = old q

  pub begin-cases : (W n t v : ℕ)
      → (differ (known net S [] n t) v ≡ true → P (record { values = replicate (net.size * W) 2; steps = []; closed = true }))
      → (differ (known net S [] n t) v ≡ false → P (record { values = set (replicate (net.size * W) 2) (t * net.size + n) v; steps = []; closed = false }))
      → P (begin net S W n t v)
  unfolding begin
  begin-cases W n t v contrary fitting = go (differ (known net S [] n t) v) refl
    where
      go : (q : Bool) → differ (known net S [] n t) v ≡ q
          → P
          (elim q [
            | true ↦ record { values = replicate (net.size * W) 2; steps = []; closed = true }
            | false ↦ record { values = set (replicate (net.size * W) 2) (t * net.size + n) v; steps = []; closed = false }
          ])
      go true q = contrary q
      go false q = fitting q

-- a relation's pins: a flip-flop's stand one frame earlier
pub frame-before : (k t : ℕ) → is_flip_flop k ≡ true → t - 1 ≡ pin_frame k t
frame-before k zero e = rw e
frame-before k (suc t) e = rw e (omega arith)

-- a relation's pins stand in its own frame, but for a flip-flop's
pub frame_same : (k t : ℕ) → is_flip_flop k ≡ false → t ≡ pin_frame k t
frame_same k t e = rw e

-- behind frame 0 every node but an input has a relation
pub relation-later : (k t : ℕ) → (t ≡ 0 → ⊥) → not (is_input k) ≡ has_relation k t
relation-later k zero h = absurd (h refl)
relation-later k (suc t) h = refl

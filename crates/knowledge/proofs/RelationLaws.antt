-- The relation of a node at a frame is what 01 says under "Knowledge", sentence by sentence, kind by kind, for every pin count together.
-- What a node's pins read is pin_values net s v n, from the stuck lines s of a frame and what is known there (v). A value from 2 on is
-- unknown, so "≡ 2" says that nothing is concluded. Pin j is stuck where s.pin n j < 2, and not where 2 ≤ s.pin n j.
-- Pins go by their numbers: two with one source are separate.
use mathlib.Core.Bool.{Bool, ◌&&◌, ◌||◌, and-false, cond, false, not, true, true≢false}
use mathlib.Core.List.{List, [], ◌∷◌}
use mathlib.Core.Logic.{◌⊎◌, inl, inr, ⊎_elim}
use mathlib.Core.Path.{◌∙◌, ◌≡◌, ap, refl, subst, subst⁻¹, sym}
use Prim.Native.Nat.{◌*◌, ◌+◌, ◌-◌, ◌<◌, ◌≤◌, suc, zero, ℕ}
use native.Mathlib.Nat.{le_of_suc-le-suc, not-suc-le-zero}
use native.Mathlib.Omega.{arith}
use lib.Dec.{eqb}
use lib.ListN.{get_or, length, set}
use borrow.Author.Tests.{eq-eqb, eqb-false, eqb-true, ne_eqb}
use Rattle.knowledge.specs.Window.{conclusion, has_relation, in_force, known, output_conclusion, pin_conclusion, pin_frame, present_below, held}
use Rattle.certificate.specs.declared.step.Step.{Step}
use Rattle.gates.proofs.GateLaws.{Controls, EveryPin, OtherPins, SomePin, controls_binary, controls_controlling, neg-binary, controlled, controlled-by}
use Rattle.gates.proofs.GateLaws.{uncontrolled, uncontrolled-by, unsettled, Parity, parity_open, parity_value, set-controlled, set-uncontrolled}
use Rattle.gates.proofs.GateLaws.{set-uncontrolled-by, xnor_parity, xor_parity, Wired, buffer_wired, flip_flop_wired, not_wired, output_wired, wired-value}
use Rattle.values.proofs.ListLaws.{list_of_one, list_of_two}
use Rattle.simulator.proofs.PinLaws.{pin-count, pin-reads}
use Rattle.gates.proofs.ValueLaws.{differ-opposite, differ_same, differ_unknown, known-low, neg-neg, opposite-differ, stuck-free, stuck-known, unknown_high}
use Rattle.simulator.specs.Clock.{pin_values}
use Rattle.circuit.specs.Fault.{StuckLines, none_stuck}
use Rattle.gates.specs.Kind.{controlling, gate, inverted_if, is_flip_flop, is_given, is_input, rule_of}
use Rattle.values.specs.Lists.{at}
use Rattle.netlist.specs.Netlist.{Net}
use Rattle.gates.specs.Value.{differ, is_unknown, neg}

-- the choice that pin_conclusion makes: where setting the pin to w, or else to its opposite, makes the output another
abbrev picked : Bool → Bool → ℕ → ℕ
picked first second w = elim first [ true ↦ neg w | false ↦ elim second [ true ↦ w | false ↦ 2 ] ]

-- of a pin that is not stuck (free), w and its opposite are tried
unfoldable choice : ℕ → List ℕ → ℕ → ℕ → Bool → ℕ → ℕ
choice k vs o j free w = picked (free && differ (gate k (set vs j w)) o) (free && differ (gate k (set vs j (neg w))) o) w

module _ (k : ℕ) (vs : List ℕ) (o j : ℕ) (free : Bool) (w : ℕ) where
  choice-first : free ≡ true → differ (gate k (set vs j w)) o ≡ true → choice k vs o j free w ≡ neg w
  unfolding choice
  choice-first f e = λ i. picked (f i && e i) (f i && differ (gate k (set vs j (neg w))) o) w

  choice-second : free ≡ true → differ (gate k (set vs j w)) o ≡ false → differ (gate k (set vs j (neg w))) o ≡ true → choice k vs o j free w ≡ w
  unfolding choice
  choice-second f e g = λ i. picked (f i && e i) (f i && g i) w

  choice-stuck : free ≡ false → choice k vs o j free w ≡ 2
  unfolding choice
  choice-stuck f = λ i. picked (f i && differ (gate k (set vs j w)) o) (f i && differ (gate k (set vs j (neg w))) o) w

choice-none : (k : ℕ) (vs : List ℕ) (o j : ℕ) (free : Bool) (w : ℕ)
    → differ (gate k (set vs j w)) o ≡ false
    → differ (gate k (set vs j (neg w))) o ≡ false
    → choice k vs o j free w ≡ 2
unfolding choice
choice-none k vs o j true w e g = λ i. picked (e i) (g i) w
choice-none k vs o j false w e g = refl

-- Every kind
module _ (net : Net) (s : StuckLines) (v : ℕ → ℕ) (n : ℕ) where
  chosen : (o j w : ℕ) → controlling (rule_of (net.kind n)).gate ≡ w
      → pin_conclusion net s v n o j ≡ choice (net.kind n) (pin_values net s v n) o j (is_unknown (s.pin n j)) w
  unfolding pin_conclusion choice
  chosen o j w e = ap (choice (net.kind n) (pin_values net s v n) o j (is_unknown (s.pin n j))) e

  -- "a faulted pin reads u and nothing is concluded of its source through it"
  pub stuck-pin-reads : (j : ℕ) → j < length (net.pins n) → s.pin n j < 2 → at (pin_values net s v n) j ≡ s.pin n j
  stuck-pin-reads j l h = pin-reads net s v n j l ∙ stuck-known (s.pin n j) _ h

  pub stuck-pin : (o j : ℕ) → s.pin n j < 2 → pin_conclusion net s v n o j ≡ 2
  stuck-pin o j h =
      let w = controlling (rule_of (net.kind n)).gate in
      chosen o j w refl ∙ choice-stuck (net.kind n) (pin_values net s v n) o j (is_unknown (s.pin n j)) w (known-low (s.pin n j) h)

  -- any other pin reads its source
  pub free-pin-reads : (j : ℕ) → j < length (net.pins n) → 2 ≤ s.pin n j → at (pin_values net s v n) j ≡ v (at (net.pins n) j)
  free-pin-reads j l h = pin-reads net s v n j l ∙ stuck-free (s.pin n j) _ h

  -- an unknown output (o) gives no pin
  pub unknown_output : (o j : ℕ) → 2 ≤ o → pin_conclusion net s v n o j ≡ 2
  unknown_output o j h =
      let w = controlling (rule_of (net.kind n)).gate in
      chosen o j w refl
      ∙ choice-none (net.kind n) (pin_values net s v n) o j (is_unknown (s.pin n j)) w
      (differ_unknown (gate (net.kind n) (set (pin_values net s v n) j w)) o h)
      (differ_unknown (gate (net.kind n) (set (pin_values net s v n) j (neg w))) o h)

-- "AND: a 0 pin gives output 0; all pins 1 give 1; output 1 gives every pin 1; output 0 with all other pins 1 gives the last pin 0.
-- OR is the dual. NAND and NOR negate the output."
-- In one: a pin at c gives output o (AND 0 and 0, NAND 0 and 1, OR 1 and 1, NOR 1 and 0: see Controls).
module _ (net : Net) (s : StuckLines) (v : ℕ → ℕ) (n : ℕ) {c o : ℕ} (h : Controls (net.kind n) c o) where
  -- "a 0 pin gives output 0"
  pub pin-gives_output : SomePin c (pin_values net s v n) → output_conclusion net s v n ≡ o
  unfolding output_conclusion
  pin-gives_output p = controlled h (pin_values net s v n) p

  -- and only such a pin does
  pub output_by_pin : output_conclusion net s v n ≡ o → SomePin c (pin_values net s v n)
  unfolding output_conclusion
  output_by_pin e = controlled-by h (pin_values net s v n) e

  -- "all pins 1 give 1"
  pub pins_give_output : EveryPin (neg c) (pin_values net s v n) → output_conclusion net s v n ≡ neg o
  unfolding output_conclusion
  pins_give_output p = uncontrolled h (pin_values net s v n) p

  -- and only they do
  pub output_by_pins : output_conclusion net s v n ≡ neg o → EveryPin (neg c) (pin_values net s v n)
  unfolding output_conclusion
  output_by_pins e = uncontrolled-by h (pin_values net s v n) e

  -- and otherwise nothing is concluded of the output
  pub output_open : (SomePin c (pin_values net s v n) → ⊥) → (EveryPin (neg c) (pin_values net s v n) → ⊥) → output_conclusion net s v n ≡ 2
  unfolding output_conclusion
  output_open p q = unsettled h (pin_values net s v n) p q

  -- of a pin j that is not stuck
  module _ (j : ℕ) (l : j < length (net.pins n)) (f : 2 ≤ s.pin n j) where
    inside : j < length (pin_values net s v n)
    inside = omega (arith, pin-count net s v n)

    -- "output 1 gives every pin 1"
    pub output_gives_pin : pin_conclusion net s v n (neg o) j ≡ neg c
    output_gives_pin =
        chosen net s v n (neg o) j c (controls_controlling h)
        ∙ choice-first (net.kind n) (pin_values net s v n) (neg o) j (is_unknown (s.pin n j)) c
        (unknown_high (s.pin n j) f)
        (rw (set-controlled h (pin_values net s v n) j inside) (opposite o (controls_binary h).1))
      where
        opposite : (o : ℕ) → o < 2 → differ o (neg o) ≡ true
        opposite o b = rw (neg-neg o b) at (differ-opposite (neg o) (neg-binary o b))

    same : differ (gate (net.kind n) (set (pin_values net s v n) j c)) o ≡ false
    same = rw (set-controlled h (pin_values net s v n) j inside) (differ_same o)

    -- "output 0 with all other pins 1 gives the last pin 0"
    pub last-pin : OtherPins (neg c) (pin_values net s v n) j → pin_conclusion net s v n o j ≡ c
    last-pin p =
        chosen net s v n o j c (controls_controlling h)
        ∙ choice-second (net.kind n) (pin_values net s v n) o j (is_unknown (s.pin n j)) c
        (unknown_high (s.pin n j) f)
        same
        (rw (set-uncontrolled h (pin_values net s v n) j inside p) (differ-opposite o (controls_binary h).1))

    -- and otherwise nothing is concluded of the pin
    pub pin_open : (OtherPins (neg c) (pin_values net s v n) j → ⊥) → pin_conclusion net s v n o j ≡ 2
    pin_open p =
        chosen net s v n o j c (controls_controlling h)
        ∙ choice-none (net.kind n) (pin_values net s v n) o j (is_unknown (s.pin n j)) c same
        (go (differ (gate (net.kind n) (set (pin_values net s v n) j (neg c))) o) refl)
      where
        go : (b : Bool) → differ (gate (net.kind n) (set (pin_values net s v n) j (neg c))) o ≡ b → b ≡ false
        go true e = absurd (p (set-uncontrolled-by h (pin_values net s v n) j inside (opposite-differ _ o e)))
        go false e = refl

    -- so the pin is concluded c only there
    pub last-pin-by : pin_conclusion net s v n o j ≡ c → OtherPins (neg c) (pin_values net s v n) j
    last-pin-by e = go (differ (gate (net.kind n) (set (pin_values net s v n) j (neg c))) o) refl
      where
        neither : differ (gate (net.kind n) (set (pin_values net s v n) j (neg c))) o ≡ false → pin_conclusion net s v n o j ≡ 2
        neither q =
            chosen net s v n o j c (controls_controlling h)
            ∙ choice-none (net.kind n) (pin_values net s v n) o j (is_unknown (s.pin n j)) c same q

        go : (b : Bool) → differ (gate (net.kind n) (set (pin_values net s v n) j (neg c))) o ≡ b → OtherPins (neg c) (pin_values net s v n) j
        go true q = set-uncontrolled-by h (pin_values net s v n) j inside (opposite-differ _ o q)
        go false q = let z : c ≡ 2 = sym e ∙ neither q in absurd (omega (arith, (controls_binary h).0))

-- "XOR, XNOR: two of the three values give the third." Of two equal values the third is e (XOR 0, XNOR 1: see Parity), of two different
-- ones its opposite.
abbrev pub third : ℕ → ℕ → ℕ → ℕ
third e a b = cond (eqb a b) e (neg e)

-- the number of the other of two pins
abbrev pub other_pin : ℕ → ℕ
other_pin j = 1 - j

parity_controlling : {k e : ℕ} → Parity k e → controlling (rule_of k).gate ≡ 0
unfolding rule_of
parity_controlling xor_parity = refl
parity_controlling xnor_parity = refl

parity_low : {k e : ℕ} → Parity k e → e < 2
parity_low xor_parity = omega arith
parity_low xnor_parity = omega arith

third_sym : (e a b : ℕ) → third e a b ≡ third e b a
third_sym e a b = go (eqb a b) refl
  where
    go : (q : Bool) → eqb a b ≡ q → cond q e (neg e) ≡ third e b a
    go true q = rw (eq-eqb b a (sym (eqb-true a b q)))
    go false q = rw (ne_eqb b a (λ r. eqb-false a b q (sym r)))

-- the three values in each other's place: x is the pin's value, y that of the other
third-picked : (e o y : ℕ) → e < 2 → o < 2 → y < 2 → picked (differ (third e 0 y) o) (differ (third e 1 y) o) 0 ≡ third e o y
third-picked zero zero zero h l m = refl
third-picked zero zero (suc zero) h l m = refl
third-picked zero (suc zero) zero h l m = refl
third-picked zero (suc zero) (suc zero) h l m = refl
third-picked (suc zero) zero zero h l m = refl
third-picked (suc zero) zero (suc zero) h l m = refl
third-picked (suc zero) (suc zero) zero h l m = refl
third-picked (suc zero) (suc zero) (suc zero) h l m = refl
third-picked (suc (suc e)) o y h l m = absurd (omega arith)
third-picked zero (suc (suc o)) y h l m = absurd (omega arith)
third-picked (suc zero) (suc (suc o)) y h l m = absurd (omega arith)
third-picked zero zero (suc (suc y)) h l m = absurd (omega arith)
third-picked zero (suc zero) (suc (suc y)) h l m = absurd (omega arith)
third-picked (suc zero) zero (suc (suc y)) h l m = absurd (omega arith)
third-picked (suc zero) (suc zero) (suc (suc y)) h l m = absurd (omega arith)

-- pin j set to x
parity_set : {k e : ℕ} → Parity k e → (a b j x : ℕ) → j < 2 → x < 2 → at (a ∷ b ∷ []) (other_pin j) < 2
    → gate k (set (a ∷ b ∷ []) j x) ≡ third e x (at (a ∷ b ∷ []) (other_pin j))
parity_set p a b zero x h l m = parity_value p x b l m
parity_set {e = e} p a b (suc zero) x h l m = parity_value p a x m l ∙ third_sym e a x
parity_set p a b (suc (suc j)) x h l m = absurd (omega arith)

parity_set_open : {k e : ℕ} → Parity k e → (a b j x : ℕ) → j < 2 → 2 ≤ at (a ∷ b ∷ []) (other_pin j) → gate k (set (a ∷ b ∷ []) j x) ≡ 2
parity_set_open p a b zero x h m = parity_open p x b (inr m)
parity_set_open p a b (suc zero) x h m = parity_open p a x (inl m)
parity_set_open p a b (suc (suc j)) x h m = absurd (omega arith)

module _ {k e : ℕ} (p : Parity k e) (o j : ℕ) (h : j < 2) where
  parity_pin : o < 2 → (vs : List ℕ) → length vs ≡ 2 → at vs (other_pin j) < 2 → choice k vs o j true 0 ≡ third e o (at vs (other_pin j))
  unfolding choice
  parity_pin g =
      list_of_two (λ vs. at vs (other_pin j) < 2 → choice k vs o j true 0 ≡ third e o (at vs (other_pin j)))
      (λ a b m.
      let q = parity_set p a b j 0 h (omega arith) m in
      let r = parity_set p a b j 1 h (omega arith) m in
      (λ i. picked (differ (q i) o) (differ (r i) o) 0) ∙ third-picked e o (at (a ∷ b ∷ []) (other_pin j)) (parity_low p) g m)

  parity_pin_open : (vs : List ℕ) → length vs ≡ 2 → 2 ≤ at vs (other_pin j) → choice k vs o j true 0 ≡ 2
  parity_pin_open =
      list_of_two (λ vs. 2 ≤ at vs (other_pin j) → choice k vs o j true 0 ≡ 2)
      (λ a b m.
      choice-none k (a ∷ b ∷ []) o j true 0 (ap (λ (x : ℕ). differ x o) (parity_set_open p a b j 0 h m)) (ap (λ (x : ℕ). differ x o) (parity_set_open p a b j 1 h m)))

module _ (net : Net) (s : StuckLines) (v : ℕ → ℕ) (n : ℕ) {e : ℕ} (h : Parity (net.kind n) e) (two : length (net.pins n) ≡ 2) where
  -- both pins known give the output
  pub pins_give_third : at (pin_values net s v n) 0 < 2 → at (pin_values net s v n) 1 < 2
      → output_conclusion net s v n ≡ third e (at (pin_values net s v n) 0) (at (pin_values net s v n) 1)
  unfolding output_conclusion
  pins_give_third =
      list_of_two (λ vs. at vs 0 < 2 → at vs 1 < 2 → gate (net.kind n) vs ≡ third e (at vs 0) (at vs 1)) (parity_value h) (pin_values net s v n) (pin-count net s v n ∙ two)

  -- and otherwise nothing is concluded of the output
  pub third_output_open : (2 ≤ at (pin_values net s v n) 0) ⊎ (2 ≤ at (pin_values net s v n) 1) → output_conclusion net s v n ≡ 2
  unfolding output_conclusion
  third_output_open =
      list_of_two (λ vs. (2 ≤ at vs 0) ⊎ (2 ≤ at vs 1) → gate (net.kind n) vs ≡ 2) (parity_open h) (pin_values net s v n) (pin-count net s v n ∙ two)

  -- of a pin j that is not stuck
  module _ (j : ℕ) (l : j < 2) (f : 2 ≤ s.pin n j) where
    tried : (o : ℕ) → pin_conclusion net s v n o j ≡ choice (net.kind n) (pin_values net s v n) o j true 0
    tried o =
        chosen net s v n o j 0 (parity_controlling h)
        ∙ ap (λ (free : Bool). choice (net.kind n) (pin_values net s v n) o j free 0) (unknown_high (s.pin n j) f)

    -- the output and the other pin known give the pin
    pub output_gives_third : (o : ℕ) → o < 2 → at (pin_values net s v n) (other_pin j) < 2
        → pin_conclusion net s v n o j ≡ third e o (at (pin_values net s v n) (other_pin j))
    output_gives_third o g m = tried o ∙ parity_pin h o j l g (pin_values net s v n) (pin-count net s v n ∙ two) m

    -- and otherwise nothing is concluded of the pin (for an unknown output: unknown_output)
    pub third-pin_open : (o : ℕ) → 2 ≤ at (pin_values net s v n) (other_pin j) → pin_conclusion net s v n o j ≡ 2
    third-pin_open o m = tried o ∙ parity_pin_open h o j l (pin_values net s v n) (pin-count net s v n ∙ two) m

-- "Buffer, NOT, output: either value gives the other." i: the kind inverts (NOT alone: see Wired, which has the flip-flop too).
wired-pin : {k : ℕ} {i : Bool} → Wired k i → (o : ℕ) → o < 2 → (a : ℕ) → choice k (a ∷ []) o 0 true (controlling (rule_of k).gate) ≡ inverted_if i o
unfolding choice gate rule_of
wired-pin p (suc (suc o)) h a = absurd (omega arith)
wired-pin output_wired zero h a = refl
wired-pin output_wired (suc zero) h a = refl
wired-pin flip_flop_wired zero h a = refl
wired-pin flip_flop_wired (suc zero) h a = refl
wired-pin buffer_wired zero h a = refl
wired-pin buffer_wired (suc zero) h a = refl
wired-pin not_wired zero h a = refl
wired-pin not_wired (suc zero) h a = refl

module _ (net : Net) (s : StuckLines) (v : ℕ → ℕ) (n : ℕ) {i : Bool} (h : Wired (net.kind n) i) (one : length (net.pins n) ≡ 1) where
  -- the pin gives the output; an unknown pin (2) gives nothing (2)
  pub pin-gives-other : output_conclusion net s v n ≡ inverted_if i (at (pin_values net s v n) 0)
  unfolding output_conclusion
  pin-gives-other =
      list_of_one (λ vs. gate (net.kind n) vs ≡ inverted_if i (at vs 0)) (wired-value h) (pin_values net s v n) (pin-count net s v n ∙ one)

  -- the output gives the pin, where it is not stuck; an unknown output gives nothing (unknown_output)
  pub output_gives_other : (o : ℕ) → o < 2 → 2 ≤ s.pin n 0 → pin_conclusion net s v n o 0 ≡ inverted_if i o
  output_gives_other o g f =
      let w = controlling (rule_of (net.kind n)).gate in
      chosen net s v n o 0 w refl
      ∙ ap (λ (free : Bool). choice (net.kind n) (pin_values net s v n) o 0 free w) (unknown_high (s.pin n 0) f)
      ∙ list_of_one (λ vs. choice (net.kind n) vs o 0 true w ≡ inverted_if i o) (wired-pin h o g) (pin_values net s v n) (pin-count net s v n ∙ one)

-- "The fault is present in frames below c and absent from c on."
pub present_below_lem : (c : ℕ) (f : StuckLines) (t : ℕ) → t < c → present_below c f t ≡ f
present_below_lem zero f t h = absurd (not-suc-le-zero h)
present_below_lem (suc c) f zero h = refl
present_below_lem (suc c) f (suc t) h = present_below_lem c f t (le_of_suc-le-suc h)

pub absent_from : (c : ℕ) (f : StuckLines) (t : ℕ) → c ≤ t → present_below c f t ≡ none_stuck
absent_from zero f t h = refl
absent_from (suc c) f zero h = absurd (not-suc-le-zero h)
absent_from (suc c) f (suc t) h = absent_from c f t (le_of_suc-le-suc h)

-- S has the stuck lines of each frame: present_below c f for a fault with the stuck lines f. So each law of a stuck line speaks of the
-- frames below c, and from c on every line is one that is not stuck.
module _ (net : Net) (S : ℕ → StuckLines) where
  -- "a faulted node is held at u from the start"
  pub held-known : (l : List ℕ) (n t : ℕ) → (S t).node n < 2 → known net S l n t ≡ (S t).node n
  unfolding known held
  held-known l n t h = stuck-known ((S t).node n) (get_or l (t * net.size + n) 2) h

  -- "and nothing is concluded through its own relation"
  pub held_not_in_force : (n t : ℕ) → (S t).node n < 2 → in_force net S n t ≡ false
  unfolding in_force held
  held_not_in_force n t h = ap (λ (b : Bool). b && has_relation (net.kind n) t) (known-low ((S t).node n) h)

  -- of any other node is known what was concluded
  pub concluded-known : (l : List ℕ) (n t : ℕ) → 2 ≤ (S t).node n → known net S l n t ≡ get_or l (t * net.size + n) 2
  unfolding known held
  concluded-known l n t h = stuck-free ((S t).node n) (get_or l (t * net.size + n) 2) h

  -- "Inputs, and flip-flops at frame 0, have none."
  pub input_not_in_force : (n t : ℕ) → net.kind n ≡ 0 → in_force net S n t ≡ false
  unfolding in_force
  input_not_in_force n t e = ap (λ (k : ℕ). is_unknown (held net S n t) && has_relation k t) e ∙ go t (is_unknown (held net S n t))
    where
      go : (t : ℕ) (b : Bool) → (b && has_relation 0 t) ≡ false
      go zero true = refl
      go zero false = refl
      go (suc t) true = refl
      go (suc t) false = refl

  pub flip_flop_not_in_force : (n : ℕ) → net.kind n ≡ 2 → in_force net S n 0 ≡ false
  unfolding in_force
  flip_flop_not_in_force n e = ap (λ (k : ℕ). is_unknown (held net S n 0) && has_relation k 0) e ∙ and-false (is_unknown (held net S n 0))

  -- Every other node has its relation, unless it is held: gates and outputs at every frame, flip-flops at each above 0.
  pub gate_in_force : (n t : ℕ) → is_given (net.kind n) ≡ false → 2 ≤ (S t).node n → in_force net S n t ≡ true
  unfolding in_force held
  gate_in_force n t e h = ap (λ (b : Bool). b && has_relation (net.kind n) t) (unknown_high ((S t).node n) h) ∙ go (net.kind n) t e
    where
      go : (k t : ℕ) → is_given k ≡ false → has_relation k t ≡ true
      go k zero e = rw e
      go k (suc t) e = ap not (neither (is_input k) (is_flip_flop k) e)
        where
          neither : (a b : Bool) → (a || b) ≡ false → a ≡ false
          neither true b e = absurd (true≢false e)
          neither false b e = refl

  pub flip_flop_in_force : (n t : ℕ) → net.kind n ≡ 2 → 2 ≤ (S (suc t)).node n → in_force net S n (suc t) ≡ true
  unfolding in_force held
  flip_flop_in_force n t e h = λ i. unknown_high ((S (suc t)).node n) h i && has_relation (e i) (suc t)

  -- The lines of a relation: line 0 is the node itself, line k + 1 the source of pin k. Pins are read in one frame, p.
  module _ (kn : ℕ → ℕ → ℕ) (n t p : ℕ) (e : pin_frame (net.kind n) t ≡ p) where
    pub output_line : conclusion net S kn n t 0 ≡ record { node = n; frame = t; value = output_conclusion net (S p) (λ m. kn m p) n; via = n; during = t }
    unfolding conclusion
    output_line = λ i. record { node = n; frame = t; value = output_conclusion net (S (e i)) (λ m. kn m (e i)) n; via = n; during = t }

    pub pin-line : (k : ℕ) → conclusion net S kn n t (suc k) ≡ record { node = at (net.pins n) k; frame = p; value = pin_conclusion net (S p) (λ m. kn m p) n (kn n t) k; via = n; during = t }
    unfolding conclusion
    pin-line k = λ i. record { node = at (net.pins n) k; frame = e i; value = pin_conclusion net (S (e i)) (λ m. kn m (e i)) n (kn n t) k; via = n; during = t }

  -- gates and outputs read their pins at their own frame
  pub gate-frame : (n t : ℕ) → is_flip_flop (net.kind n) ≡ false → pin_frame (net.kind n) t ≡ t
  gate-frame n t e = rw e

  pub flip_flop_frame : (n t : ℕ) → net.kind n ≡ 2 → pin_frame (net.kind n) (suc t) ≡ t
  flip_flop_frame n t e = rw e

  -- "Flip-flop at frame t above 0: its value equals its pin at t - 1, both ways."
  module _ (kn : ℕ → ℕ → ℕ) (n t : ℕ) (e : net.kind n ≡ 2) (one : length (net.pins n) ≡ 1) where
    wired : Wired (net.kind n) false
    wired = subst (λ (k : ℕ). Wired k false) (sym e) flip_flop_wired

    -- what the pin reads at t (its source's value, or u where it is stuck) gives the flip-flop at t + 1
    pub flip_flop_output : (conclusion net S kn n (suc t) 0).value ≡ at (pin_values net (S t) (λ m. kn m t) n) 0
    flip_flop_output =
        ap (λ (a : Step). a.value) (output_line kn n (suc t) t (flip_flop_frame n t e)) ∙ pin-gives-other net (S t) (λ m. kn m t) n wired one

    -- the flip-flop at t + 1 gives the pin's source at t, unless the pin is stuck there
    pub flip_flop_pin : kn n (suc t) < 2 → 2 ≤ (S t).pin n 0
        → conclusion net S kn n (suc t) 1 ≡ record { node = at (net.pins n) 0; frame = t; value = kn n (suc t); via = n; during = suc t }
    flip_flop_pin h f =
        pin-line kn n (suc t) t (flip_flop_frame n t e) 0
        ∙ (λ i. record { node = at (net.pins n) 0; frame = t; value = output_gives_other net (S t) (λ m. kn m t) n wired one (kn n (suc t)) h f i; via = n; during = suc t })

    -- and otherwise nothing is concluded of the pin
    pub flip_flop_pin_open : (2 ≤ kn n (suc t)) ⊎ ((S t).pin n 0 < 2) → (conclusion net S kn n (suc t) 1).value ≡ 2
    flip_flop_pin_open h =
        ap (λ (a : Step). a.value) (pin-line kn n (suc t) t (flip_flop_frame n t e) 0)
        ∙ ⊎_elim (unknown_output net (S t) (λ m. kn m t) n (kn n (suc t)) 0) (stuck-pin net (S t) (λ m. kn m t) n (kn n (suc t)) 0) h

-- The same in the window of a fault with the stuck lines f, whose fault frame is c.
module _ (net : Net) (c : ℕ) (f : StuckLines) (t : ℕ) where
  -- "Below frame c, a faulted node is held at u from the start and nothing is concluded through its own relation"
  pub node-below-c : t < c → (l : List ℕ) (n : ℕ) → f.node n < 2 → (known net (present_below c f) l n t ≡ f.node n) × (in_force net (present_below c f) n t ≡ false)
  node-below-c h l n g = (held-known net (present_below c f) l n t low ∙ ap (λ (s : StuckLines). s.node n) e, held_not_in_force net (present_below c f) n t low)
    where
      e : present_below c f t ≡ f
      e = present_below_lem c f t h

      low : (present_below c f t).node n < 2
      low = subst⁻¹ (λ (s : StuckLines). s.node n < 2) e g

  -- "a faulted pin reads u and nothing is concluded of its source through it"
  pub pin-below-c : t < c → (v : ℕ → ℕ) (n j : ℕ) → j < length (net.pins n) → f.pin n j < 2
      → (at (pin_values net (present_below c f t) v n) j ≡ f.pin n j) × ((o : ℕ) → pin_conclusion net (present_below c f t) v n o j ≡ 2)
  pin-below-c h v n j l g = subst⁻¹ P (present_below_lem c f t h) (stuck-pin-reads net f v n j l g, λ o. stuck-pin net f v n o j g)
    where
      P : StuckLines → Type 0
      P s = (at (pin_values net s v n) j ≡ f.pin n j) × ((o : ℕ) → pin_conclusion net s v n o j ≡ 2)

  -- from c on no node is held, and each pin reads its source
  pub node_from_c : c ≤ t → (l : List ℕ) (n : ℕ)
      → (known net (present_below c f) l n t ≡ get_or l (t * net.size + n) 2) × (in_force net (present_below c f) n t ≡ has_relation (net.kind n) t)
  unfolding in_force held
  node_from_c h l n = (concluded-known net (present_below c f) l n t high, ap (λ (s : StuckLines). is_unknown (s.node n) && has_relation (net.kind n) t) e)
    where
      e : present_below c f t ≡ none_stuck
      e = absent_from c f t h

      high : 2 ≤ (present_below c f t).node n
      high = subst⁻¹ (λ (s : StuckLines). 2 ≤ s.node n) e (omega arith)

  pub pin_from_c : c ≤ t → (v : ℕ → ℕ) (n j : ℕ) → j < length (net.pins n) → at (pin_values net (present_below c f t) v n) j ≡ v (at (net.pins n) j)
  pin_from_c h v n j l =
      subst⁻¹ (λ (s : StuckLines). at (pin_values net s v n) j ≡ v (at (net.pins n) j)) (absent_from c f t h) (free-pin-reads net none_stuck v n j l (omega arith))

-- The effect trace is what 01 says under "Effect trace", sentence by sentence, kind by kind, for every pin count together.
-- 0 says that a line is untouched, 1 or more that it is touched. Pin k of node n has the source at (net.pins n) k.
use mathlib.Core.Bool.{Bool, ◌&&◌, ◌||◌, cond, false, false≢true, not, true}
use mathlib.Core.List.{List, [], ◌∷◌}
use mathlib.Core.Logic.{◌⊎◌, inl, inr, ⊎_elim}
use mathlib.Core.Path.{◌∙◌, ◌≡◌, ap, refl, sym}
use Prim.Native.Nat.{◌+◌, ◌<◌, ◌≤◌, suc, zero, ℕ}
use native.Mathlib.Nat.{add-zero, le_of_suc-le-suc, not-suc-le-zero, zero-add}
use native.Mathlib.Omega.{arith}
use lib.Dec.{eqb}
use lib.ListN.{length}
use borrow.Author.Tests.{eq-eqb, eqb-true, ne_eqb}
use Rattle.trace.proofs.TraceAgreement.{latched_law, touched_law}
use Rattle.trace.proofs.TouchedLaws.{some_at, value-touched}
use Rattle.trace.specs.Trace.{effect_dies, gate_touched, latched_touched, latched_touched_list, touched_list, node_touched, pin_touched, pins_touched}
use Rattle.trace.specs.Trace.{latched_untouched, one_if, output_untouched, site_touched, some_touched, untouched_value, untouched_values}
use Rattle.values.proofs.BoolLaws.{and_left, and_right, or_right}
use Rattle.simulator.proofs.ClockLaws.{Ordered}
use Rattle.gates.proofs.GateLaws.{Controls, EveryPin, Parity, SomePin, Wired, controls_binary, neg-binary, parity_open, wired-value, controlled, controlled-by, uncontrolled-by, unsettled}
use Rattle.values.proofs.ListLaws.{every-at, every-by, indexed-at, length-indexed, list_of_one, list_of_two}
use Rattle.gates.proofs.ValueLaws.{known-low, known_is, unknown_high}
use Rattle.circuit.specs.Fault.{StuckLines, none_stuck}
use Rattle.gates.specs.Kind.{gate, inverted_if, is_flip_flop, is_given, is_output}
use Rattle.values.specs.Lists.{at, every}
use Rattle.netlist.specs.Netlist.{Net}
use Rattle.gates.specs.Value.{is_unknown, neg}

-- A faulted line (u is 0 or 1) is touched unless known (v) to be u; any other as `otherwise` says.
module _ (u v otherwise : ℕ) where
  site_touched_lem : u < 2 → (v ≡ u → ⊥) → site_touched u v otherwise ≡ 1
  site_touched_lem h d = λ i. cond (known-low u h i) otherwise (one_if (not (ne_eqb v u d i)))

  site_known : u < 2 → v ≡ u → site_touched u v otherwise ≡ 0
  site_known h e = λ i. cond (known-low u h i) otherwise (one_if (not (eq-eqb v u e i)))

  site_other : 2 ≤ u → site_touched u v otherwise ≡ otherwise
  site_other h = λ i. cond (unknown_high u h i) otherwise (one_if (not (eqb v u)))

-- One frame: D has the lines whose fault starts to act in it, which at frame c are the faulted ones. From c + 1 on there are none
-- (D is none_stuck), so that the laws of other pins and nodes hold of the faulted ones too.
module _ (net : Net) (D : StuckLines) (v : ℕ → ℕ) (ms : ℕ → ℕ) (n : ℕ) where
  -- whether a node is touched, by the rules for its kind
  abbrev touched_by_kind : (ℕ → ℕ) → ℕ
  touched_by_kind latched = cond (is_given (net.kind n)) (cond (is_flip_flop (net.kind n)) (latched n) 0) (gate_touched net D v ms n)

  -- "a faulted pin at c is touched unless its source is known to be u there". m is the source of pin k.
  pub faulted_pin_touched : (k m : ℕ) → D.pin n k < 2 → (v m ≡ D.pin n k → ⊥) → pin_touched net D v ms n k m ≡ 1
  unfolding pin_touched
  faulted_pin_touched k m = site_touched_lem (D.pin n k) (v m) (ms m)

  pub faulted_pin_known : (k m : ℕ) → D.pin n k < 2 → v m ≡ D.pin n k → pin_touched net D v ms n k m ≡ 0
  unfolding pin_touched
  faulted_pin_known k m = site_known (D.pin n k) (v m) (ms m)

  -- "Any other pin, and from c + 1 on the faulted one too, is touched if its source is"
  pub other-pin : (k m : ℕ) → 2 ≤ D.pin n k → pin_touched net D v ms n k m ≡ ms m
  unfolding pin_touched
  other-pin k m = site_other (D.pin n k) (v m) (ms m)

  -- "The faulted node at c is touched unless known to be u there"
  pub faulted_node_touched : (latched : ℕ → ℕ) → D.node n < 2 → (v n ≡ D.node n → ⊥) → node_touched net D v latched ms n ≡ 1
  unfolding node_touched
  faulted_node_touched latched = site_touched_lem (D.node n) (v n) (touched_by_kind latched)

  pub faulted_node_known : (latched : ℕ → ℕ) → D.node n < 2 → v n ≡ D.node n → node_touched net D v latched ms n ≡ 0
  unfolding node_touched
  faulted_node_known latched = site_known (D.node n) (v n) (touched_by_kind latched)

  -- any other, and "a faulted node follows the rules for its kind from c + 1 on"
  other-node : (latched : ℕ → ℕ) → 2 ≤ D.node n → node_touched net D v latched ms n ≡ touched_by_kind latched
  unfolding node_touched
  other-node latched = site_other (D.node n) (v n) (touched_by_kind latched)

  -- an input has no pins: it is untouched
  pub input_untouched : (latched : ℕ → ℕ) → 2 ≤ D.node n → net.kind n ≡ 0 → node_touched net D v latched ms n ≡ 0
  input_untouched latched h e =
      other-node latched h ∙ ap (λ (k : ℕ). cond (is_given k) (cond (is_flip_flop k) (latched n) 0) (gate_touched net D v ms n)) e

  -- a flip-flop is touched if its pin was in the frame before: latched says so (latched_touched, below)
  pub flip_flop_from_latched : (latched : ℕ → ℕ) → 2 ≤ D.node n → net.kind n ≡ 2 → node_touched net D v latched ms n ≡ latched n
  flip_flop_from_latched latched h e =
      other-node latched h ∙ ap (λ (k : ℕ). cond (is_given k) (cond (is_flip_flop k) (latched n) 0) (gate_touched net D v ms n)) e

  -- gates and outputs: by their pins, as below
  pub gate-node : (latched : ℕ → ℕ) → 2 ≤ D.node n → is_given (net.kind n) ≡ false → node_touched net D v latched ms n ≡ gate_touched net D v ms n
  gate-node latched h e =
      other-node latched h ∙ ap (λ (b : Bool). cond b (cond (is_flip_flop (net.kind n)) (latched n) 0) (gate_touched net D v ms n)) e

-- something in a list is touched
touched_some : (l : List ℕ) → some_touched l ≡ true → (k : ℕ) × (k < length l) × (1 ≤ at l k)
touched_some [] e = absurd (false≢true e)
touched_some (zero ∷ l) e = let r = touched_some l e in (suc r.0, omega arith, r.2)
touched_some (suc m ∷ l) e = (0, omega arith, omega arith)

untouched_same : (m v : ℕ) → m ≡ 0 → untouched_value m v ≡ v
untouched_same zero v e = refl
untouched_same (suc m) v e = absurd (omega arith)

-- a known value is that of an untouched pin
untouched_known : (m v c : ℕ) → c < 2 → untouched_value m v ≡ c → (m ≡ 0) × (v ≡ c)
untouched_known zero v c h e = (refl, e)
untouched_known (suc m) v c h e = absurd (omega arith)

either_value : (o v : ℕ) → o < 2 → v < 2 → (v ≡ o) ⊎ (v ≡ neg o)
either_value zero zero h l = inl refl
either_value zero (suc zero) h l = inr refl
either_value (suc zero) zero h l = inr refl
either_value (suc zero) (suc zero) h l = inl refl
either_value (suc (suc o)) v h l = absurd (omega arith)
either_value zero (suc (suc v)) h l = absurd (omega arith)
either_value (suc zero) (suc (suc v)) h l = absurd (omega arith)

module _ (net : Net) (D : StuckLines) (v : ℕ → ℕ) (ms : ℕ → ℕ) (n : ℕ) where
  -- whether pin k is touched
  abbrev pub touched_of : ℕ → ℕ
  touched_of k = pin_touched net D v ms n k (at (net.pins n) k)

  -- node n has a touched pin
  abbrev pub TouchedPin : Type 0
  TouchedPin = (k : ℕ) × (k < length (net.pins n)) × (1 ≤ touched_of k)

  -- node n has an untouched pin known to be c: a pin is known by its source
  abbrev pub UntouchedPinAt : ℕ → Type 0
  UntouchedPinAt c = (k : ℕ) × (k < length (net.pins n)) × (touched_of k ≡ 0) × (v (at (net.pins n) k) ≡ c)

  touched-at : (k : ℕ) → k < length (net.pins n) → at (pins_touched net D v ms n) k ≡ touched_of k
  touched-at k h = indexed-at (pin_touched net D v ms n) 0 (net.pins n) k 0 h ∙ rw zero-add

  values-at : (k : ℕ) → k < length (net.pins n) → at (untouched_values net D v ms n) k ≡ untouched_value (touched_of k) (v (at (net.pins n) k))
  values-at k h = indexed-at (λ k m. untouched_value (pin_touched net D v ms n k m) (v m)) 0 (net.pins n) k 0 h ∙ rw zero-add

  touched-length : length (pins_touched net D v ms n) ≡ length (net.pins n)
  touched-length = length-indexed (pin_touched net D v ms n) 0 (net.pins n)

  values_length : length (untouched_values net D v ms n) ≡ length (net.pins n)
  values_length = length-indexed (λ k m. untouched_value (pin_touched net D v ms n k m) (v m)) 0 (net.pins n)

  pin-touched_some : TouchedPin → some_touched (pins_touched net D v ms n) ≡ true
  pin-touched_some p = some_at (pins_touched net D v ms n) p.0 (omega (arith, touched-length, p.1)) (λ z. omega (arith, touched-at p.0 p.1, p.2))

  touched-by : some_touched (pins_touched net D v ms n) ≡ true → TouchedPin
  touched-by e =
      let r = touched_some (pins_touched net D v ms n) e in
      let h : r.0 < length (net.pins n) = omega (arith, touched-length) in
      (r.0, h, rw (touched-at r.0 h) at r.2)

  no_pin_touched : (TouchedPin → ⊥) → some_touched (pins_touched net D v ms n) ≡ false
  no_pin_touched p = go (some_touched (pins_touched net D v ms n)) refl
    where
      go : (b : Bool) → some_touched (pins_touched net D v ms n) ≡ b → b ≡ false
      go true e = absurd (p (touched-by e))
      go false e = refl

  -- a touched pin's value counts as unknown
  open_at : (p : TouchedPin) → at (untouched_values net D v ms n) p.0 ≡ 2
  open_at p = values-at p.0 p.1 ∙ sym (value-touched (touched_of p.0) (v (at (net.pins n) p.0)) (λ z. omega (arith, p.2)))

  -- A gate or output without a touched pin is untouched, whatever its kind.
  pub no_touched_pin : (TouchedPin → ⊥) → gate_touched net D v ms n ≡ 0
  unfolding gate_touched
  no_touched_pin p = λ i. elim (no_pin_touched p i) [ true ↦ one_if (is_unknown (gate (net.kind n) (untouched_values net D v ms n))) | false ↦ 0 ]

  -- so one that is touched has a touched pin
  pub touched-pin-by : 1 ≤ gate_touched net D v ms n → TouchedPin
  unfolding gate_touched
  touched-pin-by h = go (some_touched (pins_touched net D v ms n)) refl h
    where
      go : (b : Bool) → some_touched (pins_touched net D v ms n) ≡ b → 1 ≤ elim b [ true ↦ one_if (is_unknown (gate (net.kind n) (untouched_values net D v ms n))) | false ↦ 0 ] → TouchedPin
      go true e l = touched-by e
      go false e l = absurd (omega arith)

  passes : TouchedPin → is_unknown (gate (net.kind n) (untouched_values net D v ms n)) ≡ true → gate_touched net D v ms n ≡ 1
  unfolding gate_touched
  passes p e = λ i. elim (pin-touched_some p i) [ true ↦ one_if (e i) | false ↦ 0 ]

  -- "An AND or NAND with a touched pin is touched unless an untouched pin is known 0; OR and NOR, known 1." c is this value: see Controls.
  module _ {c o : ℕ} (h : Controls (net.kind n) c o) where
    known-pin : SomePin c (untouched_values net D v ms n) → UntouchedPinAt c
    known-pin r =
        let l : r.0 < length (net.pins n) = omega (arith, values_length) in
        let u = untouched_known (touched_of r.0) (v (at (net.pins n) r.0)) c (controls_binary h).0 (sym (values-at r.0 l) ∙ r.2) in
        (r.0, l, u.0, u.1)

    not_all : TouchedPin → EveryPin (neg c) (untouched_values net D v ms n) → ⊥
    not_all p r =
        let e : neg c ≡ 2 = sym (r p.0 (omega (arith, values_length, p.1))) ∙ open_at p in
        omega (arith, neg-binary c (controls_binary h).0)

    pub controls_touched : TouchedPin → (UntouchedPinAt c → ⊥) → gate_touched net D v ms n ≡ 1
    controls_touched p q = passes p (ap is_unknown (unsettled h (untouched_values net D v ms n) (λ r. q (known-pin r)) (not_all p)))

    -- an untouched pin known to be c keeps it untouched
    pub controls_untouched : UntouchedPinAt c → gate_touched net D v ms n ≡ 0
    unfolding gate_touched
    controls_untouched p = go (some_touched (pins_touched net D v ms n))
      where
        settled : gate (net.kind n) (untouched_values net D v ms n) ≡ o
        settled =
            controlled h (untouched_values net D v ms n)
            (p.0, omega (arith, values_length, p.1), values-at p.0 p.1 ∙ untouched_same (touched_of p.0) (v (at (net.pins n) p.0)) p.2 ∙ p.3)

        go : (b : Bool) → ◌≡◌ {A = ℕ} (elim b [ true ↦ one_if (is_unknown (gate (net.kind n) (untouched_values net D v ms n))) | false ↦ 0 ]) 0
        go true = ap (λ (x : ℕ). one_if (is_unknown x)) settled ∙ ap one_if (known-low o (controls_binary h).1)
        go false = refl

    -- and only then
    pub controls_untouched_by : TouchedPin → gate_touched net D v ms n ≡ 0 → UntouchedPinAt c
    controls_untouched_by p e = go (is_unknown (gate (net.kind n) (untouched_values net D v ms n))) refl
      where
        go : (b : Bool) → is_unknown (gate (net.kind n) (untouched_values net D v ms n)) ≡ b → UntouchedPinAt c
        go true q = let z : ◌≡◌ {A = ℕ} 0 1 = sym e ∙ passes p q in absurd (omega arith)
        go false q =
            ⊎_elim (λ r. known-pin (controlled-by h (untouched_values net D v ms n) r)) (λ r. absurd (not_all p (uncontrolled-by h (untouched_values net D v ms n) r)))
            (either_value o (gate (net.kind n) (untouched_values net D v ms n)) (controls_binary h).1 (known_is (gate (net.kind n) (untouched_values net D v ms n)) q))

  -- "Every other node with a touched pin is touched": outputs, buffers and NOTs,
  pub wired-touched : {i : Bool} → Wired (net.kind n) i → length (net.pins n) ≡ 1 → TouchedPin → gate_touched net D v ms n ≡ 1
  wired-touched {i} h one p =
      passes p
      (list_of_one (λ vs. (k : ℕ) → k < length vs → at vs k ≡ 2 → is_unknown (gate (net.kind n) vs) ≡ true)
      (λ a k l e. ap is_unknown (wired-value h a) ∙ go i a k l e)
      (untouched_values net D v ms n) (values_length ∙ one) p.0 (omega (arith, values_length, p.1)) (open_at p))
    where
      go : (i : Bool) (a k : ℕ) → k < 1 → at (a ∷ []) k ≡ 2 → is_unknown (inverted_if i a) ≡ true
      go true a zero l e = ap (λ (x : ℕ). is_unknown (neg x)) e
      go false a zero l e = ap is_unknown e
      go i a (suc k) l e = absurd (omega arith)

  -- XOR and XNOR
  pub parity_touched : {e : ℕ} → Parity (net.kind n) e → length (net.pins n) ≡ 2 → TouchedPin → gate_touched net D v ms n ≡ 1
  parity_touched h two p =
      passes p
      (ap is_unknown
      (list_of_two (λ vs. (k : ℕ) → k < length vs → at vs k ≡ 2 → gate (net.kind n) vs ≡ 2)
      (λ a b k l e. parity_open h a b (go a b k l e))
      (untouched_values net D v ms n) (values_length ∙ two) p.0 (omega (arith, values_length, p.1)) (open_at p)))
    where
      go : (a b k : ℕ) → k < 2 → at (a ∷ b ∷ []) k ≡ 2 → (2 ≤ a) ⊎ (2 ≤ b)
      go a b zero l e = inl (omega arith)
      go a b (suc zero) l e = inr (omega arith)
      go a b (suc (suc k)) l e = absurd (omega arith)

  -- "a flip-flop one frame later": what its pin hands on to the next frame
  pub flip_flop_touched : net.kind n ≡ 2 → TouchedPin → latched_touched net D v ms n ≡ 1
  unfolding latched_touched
  flip_flop_touched e p = λ i. cond (is_flip_flop (e i)) (one_if (pin-touched_some p i)) 0

  pub flip_flop_untouched : net.kind n ≡ 2 → (TouchedPin → ⊥) → latched_touched net D v ms n ≡ 0
  unfolding latched_touched
  flip_flop_untouched e p = λ i. cond (is_flip_flop (e i)) (one_if (no_pin_touched p i)) 0

  -- no other node is touched through what was latched
  pub not_latched : is_flip_flop (net.kind n) ≡ false → latched_touched net D v ms n ≡ 0
  unfolding latched_touched
  not_latched e = rw e

  latched-by : latched_touched net D v ms n ≡ 0 → net.kind n ≡ 2 → TouchedPin → ⊥
  latched-by z e p = let q : ◌≡◌ {A = ℕ} 0 1 = sym z ∙ flip_flop_touched e p in omega arith

-- The frames from t on (the fault frame c), where D has the faulted lines and latched the flip-flops touched at t (at c there are none).
-- kn has what is known, by node and frame.
module _ (net : Net) (kn : ℕ → ℕ → ℕ) where
  -- what is touched in one frame, and what its flip-flops hand on
  abbrev pub frame_touched : StuckLines → ℕ → List ℕ → List ℕ
  frame_touched D t latched = touched_list net D (λ n. kn n t) (at latched)

  abbrev pub handed_on : StuckLines → ℕ → List ℕ → List ℕ
  handed_on D t latched = latched_touched_list net D (λ n. kn n t) (at (frame_touched D t latched))

  -- the faulted lines count in the first frame alone
  abbrev pub starting_in : StuckLines → ℕ → StuckLines
  starting_in D zero = D
  starting_in D (suc r) = none_stuck

  -- the flip-flops touched in frame t + r: their pins were one frame before
  abbrev pub latched_at : StuckLines → ℕ → List ℕ → ℕ → List ℕ
  latched_at D t latched zero = latched
  latched_at D t latched (suc r) = handed_on (starting_in D r) (t + r) (latched_at D t latched r)

  -- the nodes touched in frame t + r
  abbrev pub touched_at : StuckLines → ℕ → List ℕ → ℕ → List ℕ
  touched_at D t latched r = frame_touched (starting_in D r) (t + r) (latched_at D t latched r)

  -- "Every other node with a touched pin is touched, a flip-flop one frame later": at t + r + 1 if a pin of it is touched at t + r
  pub flip_flop_later : (D : StuckLines) (t : ℕ) (latched : List ℕ) (r n : ℕ) → Ordered net → n < net.size → net.kind n ≡ 2
      → at (touched_at D t latched (suc r)) n ≡ latched_touched net (starting_in D r) (λ m. kn m (t + r)) (at (touched_at D t latched r)) n
  flip_flop_later D t latched r n o l e =
      touched_law net none_stuck (λ m. kn m (t + suc r)) (at (latched_at D t latched (suc r))) n o l
      ∙ flip_flop_from_latched net none_stuck (λ m. kn m (t + suc r)) (at (touched_at D t latched (suc r))) n (at (latched_at D t latched (suc r))) (omega arith) e
      ∙ latched_law net (starting_in D r) (λ m. kn m (t + r)) (at (touched_at D t latched r)) n l

  none_starting : (r : ℕ) → starting_in none_stuck r ≡ none_stuck
  none_starting zero = refl
  none_starting (suc r) = refl

  later : (t r : ℕ) → t + suc r ≡ suc t + r
  later t r = omega arith

  -- the same frames, counted from t + 1
  latched_shift : (D : StuckLines) (t : ℕ) (latched : List ℕ) (r : ℕ) → latched_at D t latched (suc r) ≡ latched_at none_stuck (suc t) (handed_on D t latched) r
  latched_shift D t latched zero = λ i. handed_on D (add-zero t i) latched
  latched_shift D t latched (suc r) = λ i. handed_on (sym (none_starting r) i) (later t r i) (latched_shift D t latched r i)

  touched_shift : (D : StuckLines) (t : ℕ) (latched : List ℕ) (r : ℕ) → touched_at D t latched (suc r) ≡ touched_at none_stuck (suc t) (handed_on D t latched) r
  touched_shift D t latched r = λ i. frame_touched (sym (none_starting r) i) (later t r i) (latched_shift D t latched r i)

  touched-first : (D : StuckLines) (t : ℕ) (latched : List ℕ) → touched_at D t latched 0 ≡ frame_touched D t latched
  touched-first D t latched = λ i. frame_touched D (add-zero t i) latched

  -- the two tests of effect_dies, over these lists
  abbrev outputs_untouched : List ℕ → Bool
  outputs_untouched l = every (output_untouched net l) net.size

  abbrev latches_untouched : List ℕ → Bool
  latches_untouched l = every (latched_untouched l) net.size

  abbrev rest : ℕ → ℕ → StuckLines → List ℕ → Bool
  rest F t D latched = effect_dies net kn F (suc t) none_stuck (handed_on D t latched)

  dies-outputs : (F t : ℕ) (D : StuckLines) (latched : List ℕ) → effect_dies net kn F t D latched ≡ true
      → (r : ℕ) → r ≤ F → outputs_untouched (touched_at D t latched r) ≡ true
  unfolding effect_dies
  dies-outputs zero t D latched e zero h =
      ap outputs_untouched (touched-first D t latched) ∙ and_left (outputs_untouched (frame_touched D t latched)) (latches_untouched (handed_on D t latched)) e
  dies-outputs zero t D latched e (suc r) h = absurd (not-suc-le-zero h)
  dies-outputs (suc F) t D latched e zero h =
      ap outputs_untouched (touched-first D t latched) ∙ and_left (outputs_untouched (frame_touched D t latched)) (rest F t D latched) e
  dies-outputs (suc F) t D latched e (suc r) h =
      ap outputs_untouched (touched_shift D t latched r)
      ∙ dies-outputs F (suc t) none_stuck (handed_on D t latched)
      (and_right (outputs_untouched (frame_touched D t latched)) (rest F t D latched) e)
      r (le_of_suc-le-suc h)

  dies_latches : (F t : ℕ) (D : StuckLines) (latched : List ℕ) → effect_dies net kn F t D latched ≡ true → latches_untouched (latched_at D t latched (suc F)) ≡ true
  unfolding effect_dies
  dies_latches zero t D latched e =
      ap latches_untouched (latched_shift D t latched 0) ∙ and_right (outputs_untouched (frame_touched D t latched)) (latches_untouched (handed_on D t latched)) e
  dies_latches (suc F) t D latched e =
      ap latches_untouched (latched_shift D t latched (suc F))
      ∙ dies_latches F (suc t) none_stuck (handed_on D t latched) (and_right (outputs_untouched (frame_touched D t latched)) (rest F t D latched) e)

  first-outputs : (t : ℕ) (D : StuckLines) (latched : List ℕ) → outputs_untouched (touched_at D t latched 0) ≡ true → outputs_untouched (frame_touched D t latched) ≡ true
  first-outputs t D latched e = sym (ap outputs_untouched (touched-first D t latched)) ∙ e

  later_latches : (t : ℕ) (D : StuckLines) (latched : List ℕ) (r : ℕ) → latches_untouched (latched_at D t latched (suc r)) ≡ true
      → latches_untouched (latched_at none_stuck (suc t) (handed_on D t latched) r) ≡ true
  later_latches t D latched r e = sym (ap latches_untouched (latched_shift D t latched r)) ∙ e

  dies-by : (F t : ℕ) (D : StuckLines) (latched : List ℕ)
      → ((r : ℕ) → r ≤ F → outputs_untouched (touched_at D t latched r) ≡ true)
      → latches_untouched (latched_at D t latched (suc F)) ≡ true
      → effect_dies net kn F t D latched ≡ true
  unfolding effect_dies
  dies-by zero t D latched a b = λ i. first-outputs t D latched (a 0 (omega arith)) i && later_latches t D latched 0 b i
  dies-by (suc F) t D latched a b =
      let r : rest F t D latched ≡ true
      = dies-by F (suc t) none_stuck (handed_on D t latched)
      (λ r h. sym (ap outputs_untouched (touched_shift D t latched r)) ∙ a (suc r) (omega arith))
      (later_latches t D latched (suc F) b) in
      λ i. first-outputs t D latched (a 0 (omega arith)) i && r i

  -- "no output is touched in the window and no flip-flop's pin is touched in the last frame": the frames are t to t + F
  pub record NothingTouched (F t : ℕ) (D : StuckLines) (latched : List ℕ) : Type 0 where
    pub outputs : (r : ℕ) → r ≤ F → (n : ℕ) → n < net.size → net.kind n ≡ 1 → at (touched_at D t latched r) n ≡ 0
    pub pins : (n : ℕ) → n < net.size → net.kind n ≡ 2
        → (k : ℕ) → k < length (net.pins n) → touched_of net (starting_in D F) (λ m. kn m (t + F)) (at (touched_at D t latched F)) n k ≡ 0

  untouched_output : (l : List ℕ) (n : ℕ) → output_untouched net l n ≡ true → net.kind n ≡ 1 → at l n ≡ 0
  untouched_output l n e k = eqb-true (at l n) 0 (or_right (not (is_output (net.kind n))) (eqb (at l n) 0) e (rw k))

  output_untouched_lem : (l : List ℕ) (n : ℕ) → (net.kind n ≡ 1 → at l n ≡ 0) → output_untouched net l n ≡ true
  output_untouched_lem l n h = go (is_output (net.kind n)) refl
    where
      go : (b : Bool) → is_output (net.kind n) ≡ b → (not b || eqb (at l n) 0) ≡ true
      go true e = eq-eqb (at l n) 0 (h (eqb-true (net.kind n) 1 e))
      go false e = refl

  module _ (F t : ℕ) (D : StuckLines) (latched : List ℕ) where
    -- in the last frame: a flip-flop hands nothing on, or its pins are untouched
    pins_of_lem : (n : ℕ) → n < net.size → latched_untouched (latched_at D t latched (suc F)) n ≡ true
        → net.kind n ≡ 2 → TouchedPin net (starting_in D F) (λ m. kn m (t + F)) (at (touched_at D t latched F)) n → ⊥
    pins_of_lem n l e =
        latched-by net (starting_in D F) (λ m. kn m (t + F)) (at (touched_at D t latched F)) n
        (sym (latched_law net (starting_in D F) (λ m. kn m (t + F)) (at (touched_at D t latched F)) n l) ∙ eqb-true (at (latched_at D t latched (suc F)) n) 0 e)

    of_pins : (n : ℕ) → n < net.size
        → (net.kind n ≡ 2 → TouchedPin net (starting_in D F) (λ m. kn m (t + F)) (at (touched_at D t latched F)) n → ⊥)
        → latched_untouched (latched_at D t latched (suc F)) n ≡ true
    of_pins n l p =
        eq-eqb (at (latched_at D t latched (suc F)) n) 0
        (latched_law net (starting_in D F) (λ m. kn m (t + F)) (at (touched_at D t latched F)) n l ∙ go (is_flip_flop (net.kind n)) refl)
      where
        go : (b : Bool) → is_flip_flop (net.kind n) ≡ b → latched_touched net (starting_in D F) (λ m. kn m (t + F)) (at (touched_at D t latched F)) n ≡ 0
        go true e =
            let k : net.kind n ≡ 2 = eqb-true (net.kind n) 2 e in
            flip_flop_untouched net (starting_in D F) (λ m. kn m (t + F)) (at (touched_at D t latched F)) n k (p k)
        go false e = not_latched net (starting_in D F) (λ m. kn m (t + F)) (at (touched_at D t latched F)) n e

    -- this is what effect_dies says, no more and no less
    pub dies_says : effect_dies net kn F t D latched ≡ true → NothingTouched F t D latched
    dies_says e = record { outputs = outs; pins = λ n l q k g. none (touched_of net (starting_in D F) (λ m. kn m (t + F)) (at (touched_at D t latched F)) n k) (lasts n l q k g) }
      where
        outs : (r : ℕ) → r ≤ F → (n : ℕ) → n < net.size → net.kind n ≡ 1 → at (touched_at D t latched r) n ≡ 0
        outs r h n l =
            untouched_output (touched_at D t latched r) n
            (every-at (output_untouched net (touched_at D t latched r)) net.size (dies-outputs F t D latched e r h) n l)

        lasts : (n : ℕ) → n < net.size → net.kind n ≡ 2 → (k : ℕ) → k < length (net.pins n)
            → 1 ≤ touched_of net (starting_in D F) (λ m. kn m (t + F)) (at (touched_at D t latched F)) n k → ⊥
        lasts n l q k g z =
            pins_of_lem n l (every-at (latched_untouched (latched_at D t latched (suc F))) net.size (dies_latches F t D latched e) n l) q (k, g, z)

        none : (m : ℕ) → (1 ≤ m → ⊥) → m ≡ 0
        none zero h = refl
        none (suc m) h = absurd (h (omega arith))

    pub says_dies : NothingTouched F t D latched → effect_dies net kn F t D latched ≡ true
    says_dies w =
        dies-by F t D latched
        (λ r h. every-by (output_untouched net (touched_at D t latched r)) net.size (λ n l. output_untouched_lem (touched_at D t latched r) n (w.outputs r h n l)))
        (every-by (latched_untouched (latched_at D t latched (suc F))) net.size (λ n l. of_pins n l (clash n l)))
      where
        clash : (n : ℕ) → n < net.size → net.kind n ≡ 2 → TouchedPin net (starting_in D F) (λ m. kn m (t + F)) (at (touched_at D t latched F)) n → ⊥
        clash n l k p = let z = w.pins n l k p.0 p.1 in omega (arith, p.2)

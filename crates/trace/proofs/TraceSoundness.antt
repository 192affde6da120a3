-- The effect trace is sound: a line that is not touched has the same value with and without the fault. So where the effect dies, outputs
-- are the same for ever.
use mathlib.Core.Bool.{Bool, cond, false, false≢true, true}
use mathlib.Core.List.{List, ◌∷◌}
use mathlib.Core.Path.{◌∙◌, ◌≡◌, ap, fun_ext, refl, sym}
use Prim.Native.Nat.{◌+◌, ◌<◌, ◌≤◌, suc, zero, ℕ}
use native.Mathlib.Nat.{add-suc, add-zero, suc-add}
use native.Mathlib.Omega.{arith}
use lib.Dec.{eqb}
use borrow.Author.Tests.{eqb-true}
use Rattle.trace.proofs.TraceAgreement.{latched_law, touched_law}
use Rattle.knowledge.proofs.HybridRuns.{seen_in, seen_in_agree}
use Rattle.trace.proofs.TouchedLaws.{no_touch, no_touch_not}
use Rattle.trace.specs.Trace.{effect_dies, gate_touched, latched_touched, latched_touched_list, latched_untouched, one_if, touched_list, node_touched}
use Rattle.trace.specs.Trace.{output_untouched, pin_touched, pins_touched, site_touched, some_touched, untouched_value, untouched_values}
use Rattle.knowledge.specs.Window.{present_below}
use Rattle.values.proofs.BoolLaws.{and_left, and_right, implied}
use Rattle.simulator.proofs.ClockLaws.{Ordered, latched-at, seen_law}
use Rattle.gates.proofs.GateLaws.{Refines, RefinesAll, gate_mono, indexed_refines}
use Rattle.values.proofs.ListLaws.{Below, bcons, bnil, every-at}
use Rattle.gates.proofs.ValueLaws.{known_is}
use Rattle.simulator.specs.Clock.{latched_by, pin_values, seen_by}
use Rattle.simulator.specs.ClockLists.{clock_start, latched_after, seen_after}
use Rattle.circuit.specs.Fault.{StuckLines, none_stuck}
use Rattle.gates.specs.Kind.{gate, is_flip_flop, is_given, is_output}
use Rattle.values.specs.Lists.{at, every, indexed}
use Rattle.netlist.specs.Netlist.{Net}
use Rattle.gates.specs.Value.{is_unknown, stuck_or}

-- an untouched line of value x in the good circuit has it in the faulty one, where its own value would be y
site_same : (u v m x y : ℕ) → site_touched u v m ≡ 0 → Refines v x → (m ≡ 0 → x ≡ y) → x ≡ stuck_or u y
site_same zero v m x y e f g = let q : v ≡ 0 = eqb-true v 0 (no_touch_not (eqb v 0) e) in sym (f (omega arith)) ∙ q
site_same (suc zero) v m x y e f g = let q : v ≡ 1 = eqb-true v 1 (no_touch_not (eqb v 1) e) in sym (f (omega arith)) ∙ q
site_same (suc (suc u)) v m x y e f g = g e

-- where f touches nothing, two lists that agree at every untouched line are the same
no_touch-same : {b : ℕ} {xs : List ℕ} → Below b xs → (f g h : ℕ → ℕ → ℕ) (k : ℕ) → some_touched (indexed f k xs) ≡ false
    → ((k m : ℕ) → m < b → f k m ≡ 0 → g k m ≡ h k m) → indexed g k xs ≡ indexed h k xs
no_touch-same bnil f g h k e q = refl
no_touch-same (bcons {x} {xs} p r) f g h k e q = go (f k x) refl e (λ e₁. no_touch-same r f g h (suc k) e₁ q)
  where
    go : (y : ℕ) → f k x ≡ y → some_touched (y ∷ indexed f (suc k) xs) ≡ false → (some_touched (indexed f (suc k) xs) ≡ false → indexed g (suc k) xs ≡ indexed h (suc k) xs)
        → (g k x ∷ indexed g (suc k) xs) ≡ (h k x ∷ indexed h (suc k) xs)
    go zero z e r = let a = q k x p z in let b = r e in λ i. a i ∷ b i
    go (suc y) z e r = absurd (false≢true (sym e))

untouched_refines : (m v x : ℕ) → (m ≡ 0 → Refines v x) → Refines (untouched_value m v) x
untouched_refines zero v x h = h refl
untouched_refines (suc m) v x h = λ k. absurd (omega arith)

-- One frame: a has the values without the lines of D, b those with them; ga and gb what the two are given. What is known is true of a.
module _ (net : Net) (o : Ordered net) (D : StuckLines) (kn ga gb latched a b : ℕ → ℕ)
    (law-a : (n : ℕ) → n < net.size → a n ≡ seen_by net none_stuck ga a n)
    (law-b : (n : ℕ) → n < net.size → b n ≡ seen_by net D gb b n)
    (inputs : (n : ℕ) → n < net.size → is_flip_flop (net.kind n) ≡ false → ga n ≡ gb n)
    (flip_flops : (n : ℕ) → n < net.size → is_flip_flop (net.kind n) ≡ true → latched n ≡ 0 → ga n ≡ gb n)
    (true-a : (n : ℕ) → n < net.size → Refines (kn n) (a n)) where
  -- pins: an untouched one reads the same in both
  module _ (ms : ℕ → ℕ) (n b₀ : ℕ) (wide : b₀ ≤ net.size) (low : Below b₀ (net.pins n)) (same : (m : ℕ) → m < b₀ → ms m ≡ 0 → a m ≡ b m) where
    pin-same : (k m : ℕ) → m < b₀ → pin_touched net D kn ms n k m ≡ 0 → a m ≡ stuck_or (D.pin n k) (b m)
    unfolding pin_touched
    pin-same k m h e = site_same (D.pin n k) (kn m) (ms m) (a m) (b m) e (true-a m (omega arith)) (same m h)

    pins-same : some_touched (pins_touched net D kn ms n) ≡ false → pin_values net none_stuck a n ≡ pin_values net D b n
    unfolding pin_values
    pins-same e = no_touch-same low (pin_touched net D kn ms n) (λ k m. a m) (λ k m. stuck_or (D.pin n k) (b m)) 0 e pin-same

    gate_same : gate_touched net D kn ms n ≡ 0 → gate (net.kind n) (pin_values net none_stuck a n) ≡ gate (net.kind n) (pin_values net D b n)
    unfolding gate_touched pin_values
    gate_same e = go (some_touched (pins_touched net D kn ms n)) refl e
      where
        refines_a : RefinesAll (untouched_values net D kn ms n) (pin_values net none_stuck a n)
        refines_a =
            indexed_refines low (λ k m. untouched_value (pin_touched net D kn ms n k m) (kn m)) (λ k m. a m) 0
            (λ k m h. untouched_refines (pin_touched net D kn ms n k m) (kn m) (a m) (λ _. true-a m (omega arith)))

        refines_b : RefinesAll (untouched_values net D kn ms n) (pin_values net D b n)
        refines_b =
            indexed_refines low (λ k m. untouched_value (pin_touched net D kn ms n k m) (kn m)) (λ k m. stuck_or (D.pin n k) (b m)) 0
            (λ k m h. untouched_refines (pin_touched net D kn ms n k m) (kn m) (stuck_or (D.pin n k) (b m)) (λ z. rw (← (pin-same k m h z)) (true-a m (omega arith))))

        go : (q : Bool) → some_touched (pins_touched net D kn ms n) ≡ q
            → ◌≡◌ {A = ℕ} (elim q [ true ↦ one_if (is_unknown (gate (net.kind n) (untouched_values net D kn ms n))) | false ↦ 0 ]) 0
            → gate (net.kind n) (pin_values net none_stuck a n) ≡ gate (net.kind n) (pin_values net D b n)
        go true q e =
            let w : gate (net.kind n) (untouched_values net D kn ms n) < 2 =
            known_is (gate (net.kind n) (untouched_values net D kn ms n)) (no_touch (is_unknown (gate (net.kind n) (untouched_values net D kn ms n))) e) in
            sym (gate_mono (net.kind n) refines_a w) ∙ gate_mono (net.kind n) refines_b w
        go false q e = ap (gate (net.kind n)) (pins-same q)

  -- THE law of the trace: a node that is not touched has the same value in both
  pub untouched_same : (n : ℕ) → n < net.size → at (touched_list net D kn latched) n ≡ 0 → a n ≡ b n
  unfolding node_touched seen_by
  untouched_same n h e = below (suc n) n (omega arith) h e
    where
      ms : ℕ → ℕ
      ms = at (touched_list net D kn latched)

      own : (n : ℕ) → n < net.size → ((m : ℕ) → m < n → ms m ≡ 0 → a m ≡ b m)
          → (s : Bool) → is_given (net.kind n) ≡ s → (t : Bool) → is_flip_flop (net.kind n) ≡ t
          → cond s (cond t (latched n) 0) (gate_touched net D kn ms n) ≡ 0
          → cond s (ga n) (gate (net.kind n) (pin_values net none_stuck a n)) ≡ cond s (gb n) (gate (net.kind n) (pin_values net D b n))
      own n h ih true p true q z = flip_flops n h q z
      own n h ih true p false q z = inputs n h q
      own n h ih false p t q z = gate_same ms n n (omega arith) (o.earlier n h p) ih z

      below : (i n : ℕ) → n < i → n < net.size → ms n ≡ 0 → a n ≡ b n
      below zero n l h e = absurd (omega arith)
      below (suc i) n l h e =
          site_same (D.node n) (kn n) _ (a n) (cond (is_given (net.kind n)) (gb n) (gate (net.kind n) (pin_values net D b n)))
          (sym (touched_law net D kn latched n o h) ∙ e)
          (true-a n h)
          (λ z. law-a n h ∙ own n h (λ m q y. below i m (omega arith) (omega arith) y) (is_given (net.kind n)) refl (is_flip_flop (net.kind n)) refl z)
          ∙ sym (law-b n h)

  -- a flip-flop whose pin is not touched latches the same in both
  pub latched-same : (n : ℕ) → n < net.size → latched_touched net D kn (at (touched_list net D kn latched)) n ≡ 0 → latched_by net none_stuck a n ≡ latched_by net D b n
  unfolding latched_touched latched_by
  latched-same n h e = go (is_flip_flop (net.kind n)) e
    where
      ms : ℕ → ℕ
      ms = at (touched_list net D kn latched)

      go : (t : Bool) → cond t (one_if (some_touched (pins_touched net D kn ms n))) 0 ≡ 0
          → cond t (at (pin_values net none_stuck a n) 0) 0 ≡ cond t (at (pin_values net D b n) 0) 0
      go true z =
          ap (λ (vs : List ℕ). at vs 0)
          (pins-same ms n net.size (omega arith) (o.within n h) untouched_same (no_touch (some_touched (pins_touched net D kn ms n)) z))
      go false z = refl

absent_below : present_below 1 none_stuck ≡ (λ (t : ℕ). none_stuck)
absent_below = fun_ext go
  where
    go : (t : ℕ) → present_below 1 none_stuck t ≡ none_stuck
    go zero = refl
    go (suc t) = refl

module _ (net : Net) (o : Ordered net) (kn : ℕ → ℕ → ℕ) where
  -- What is touched in frame t, where `latched` has the touched flip-flops; and the flip-flops touched in the next frame.
  abbrev touched_at : ℕ → StuckLines → List ℕ → List ℕ
  touched_at t D latched = touched_list net D (λ n. kn n t) (at latched)

  abbrev touched_next : ℕ → StuckLines → List ℕ → List ℕ
  touched_next t D latched = latched_touched_list net D (λ n. kn n t) (at (touched_at t D latched))

  -- frame t of two runs, from lA without the lines of D and from lB with them, that start the same at every untouched flip-flop
  module _ (t : ℕ) (D : StuckLines) (latched x lA lB : List ℕ)
      (true-now : (n : ℕ) → n < net.size → Refines (kn n t) (at (seen_after net none_stuck x lA) n))
      (start : (n : ℕ) → n < net.size → net.kind n ≡ 2 → at latched n ≡ 0 → at lA n ≡ at lB n) where
    a_law : (n : ℕ) → n < net.size → at (seen_after net none_stuck x lA) n ≡ seen_by net none_stuck (clock_start net x lA) (at (seen_after net none_stuck x lA)) n
    unfolding seen_after
    a_law n h = seen_law net none_stuck (clock_start net x lA) n o h

    b_law : (n : ℕ) → n < net.size → at (seen_after net D x lB) n ≡ seen_by net D (clock_start net x lB) (at (seen_after net D x lB)) n
    unfolding seen_after
    b_law n h = seen_law net D (clock_start net x lB) n o h

    inputs-same : (n : ℕ) → n < net.size → is_flip_flop (net.kind n) ≡ false → clock_start net x lA n ≡ clock_start net x lB n
    unfolding clock_start
    inputs-same n h e = rw e

    flip_flops_same : (n : ℕ) → n < net.size → is_flip_flop (net.kind n) ≡ true → at latched n ≡ 0 → clock_start net x lA n ≡ clock_start net x lB n
    unfolding clock_start
    flip_flops_same n h e z = rw e (start n h (eqb-true (net.kind n) 2 e) z)

    -- an output that is not touched is the same
    outputs-same : every (output_untouched net (touched_at t D latched)) net.size ≡ true → (n : ℕ) → n < net.size → is_output (net.kind n) ≡ true
        → at (seen_after net none_stuck x lA) n ≡ at (seen_after net D x lB) n
    outputs-same e n h k =
        untouched_same net o D (λ n. kn n t) (clock_start net x lA) (clock_start net x lB) (at latched) (at (seen_after net none_stuck x lA)) (at (seen_after net D x lB))
        a_law b_law inputs-same flip_flops_same true-now n h
        (eqb-true (at (touched_at t D latched) n) 0
        (implied (is_output (net.kind n)) (eqb (at (touched_at t D latched) n) 0) (every-at (output_untouched net (touched_at t D latched)) net.size e n h) k))

    -- and a flip-flop that is untouched in the next frame has latched the same
    next-same : (n : ℕ) → n < net.size → at (touched_next t D latched) n ≡ 0 → at (latched_after net none_stuck x lA) n ≡ at (latched_after net D x lB) n
    unfolding latched_after
    next-same n h e =
        latched-at net none_stuck (at (seen_after net none_stuck x lA)) n h
        ∙ latched-same net o D (λ n. kn n t) (clock_start net x lA) (clock_start net x lB) (at latched) (at (seen_after net none_stuck x lA)) (at (seen_after net D x lB))
        a_law b_law inputs-same flip_flops_same true-now n h
        (sym (latched_law net D (λ n. kn n t) (at (touched_at t D latched)) n h) ∙ e)
        ∙ sym (latched-at net D (at (seen_after net D x lB)) n h)

  -- Where the effect dies, the run with the lines of D stuck in its first clock shows the outputs of the good run at every clock.
  pub dies-same : (r t : ℕ) (D : StuckLines) (latched : List ℕ) (X : ℕ → List ℕ) (lA lB : List ℕ)
      → ((i n : ℕ) → n < net.size → Refines (kn n (t + i)) (at (seen_in net (λ (_ : ℕ). none_stuck) X lA i) n))
      → ((n : ℕ) → n < net.size → net.kind n ≡ 2 → at latched n ≡ 0 → at lA n ≡ at lB n)
      → effect_dies net kn r t D latched ≡ true
      → (j n : ℕ) → n < net.size → is_output (net.kind n) ≡ true → at (seen_in net (λ (_ : ℕ). none_stuck) X lA j) n ≡ at (seen_in net (present_below 1 D) X lB j) n
  unfolding effect_dies
  dies-same zero t D latched X lA lB kA st e zero n h k =
      outputs-same t D latched (X 0) lA lB (λ m p. rw add-zero at (kA 0 m p)) st
      (and_left (every (output_untouched net (touched_at t D latched)) net.size) (every (latched_untouched (touched_next t D latched)) net.size) e)
      n h k
  dies-same zero t D latched X lA lB kA st e (suc j) n h k =
      ap (λ (w : List ℕ). at w n)
      (seen_in_agree net (λ (_ : ℕ). none_stuck) (λ i. X (suc i)) (latched_after net none_stuck (X 0) lA) (latched_after net D (X 0) lB)
      (λ m p _.
      next-same t D latched (X 0) lA lB (λ m p. rw add-zero at (kA 0 m p)) st m p
      (eqb-true (at (touched_next t D latched) m) 0
      (every-at (latched_untouched (touched_next t D latched)) net.size
      (and_right (every (output_untouched net (touched_at t D latched)) net.size) (every (latched_untouched (touched_next t D latched)) net.size) e) m p)))
      j)
  dies-same (suc r) t D latched X lA lB kA st e zero n h k =
      outputs-same t D latched (X 0) lA lB (λ m p. rw add-zero at (kA 0 m p)) st
      (and_left (every (output_untouched net (touched_at t D latched)) net.size) (effect_dies net kn r (suc t) none_stuck (touched_next t D latched)) e)
      n h k
  dies-same (suc r) t D latched X lA lB kA st e (suc j) n h k =
      dies-same r (suc t) none_stuck (touched_next t D latched) (λ i. X (suc i)) (latched_after net none_stuck (X 0) lA) (latched_after net D (X 0) lB)
      (λ i m p. rw suc-add (rw add-suc at (kA (suc i) m p)))
      (λ m p _ z. next-same t D latched (X 0) lA lB (λ m p. rw add-zero at (kA 0 m p)) st m p z)
      (and_right (every (output_untouched net (touched_at t D latched)) net.size) (effect_dies net kn r (suc t) none_stuck (touched_next t D latched)) e)
      j n h k
      ∙ ap (λ (S : ℕ → StuckLines). at (seen_in net S (λ i. X (suc i)) (latched_after net D (X 0) lB) j) n) absent_below

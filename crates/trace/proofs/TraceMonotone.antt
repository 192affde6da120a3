-- More knowledge: what the effect does not touch stays untouched where more is known.
use mathlib.Core.Bool.{Bool, cond, false, false≢true, true}
use mathlib.Core.List.{List, [], ◌∷◌}
use mathlib.Core.Path.{◌∙◌, ◌≡◌, ap, refl, sym}
use Prim.Native.Nat.{◌+◌, ◌<◌, ◌≤◌, suc, zero, ℕ}
use native.Mathlib.Omega.{arith}
use lib.Dec.{eqb}
use lib.ListN.{length}
use borrow.Author.Tests.{eq-eqb, eqb-true}
use Rattle.trace.proofs.TraceAgreement.{latched_law, touched_law}
use Rattle.trace.proofs.TouchedLaws.{gate-touched, gate_untouched, touched-known, no_touch, no_touch_not}
use Rattle.trace.proofs.TraceLaws.{NothingTouched, dies_says, latched_at, touched_at, says_dies, starting_in}
use Rattle.trace.specs.Trace.{effect_dies, gate_touched, latched_touched, one_if, touched_list, node_touched, pin_touched, pins_touched, site_touched, some_touched, untouched_value, untouched_values}
use Rattle.gates.proofs.GateLaws.{Refines, RefinesAll, gate_mono, indexed_refines}
use Rattle.values.proofs.ListLaws.{Below, bcons, below_at, bnil}
use Rattle.gates.proofs.ValueLaws.{known_is}
use Rattle.simulator.proofs.ClockLaws.{Ordered}
use Rattle.circuit.specs.Fault.{StuckLines}
use Rattle.gates.specs.Kind.{gate, is_flip_flop, is_given}
use Rattle.values.specs.Lists.{at, indexed}
use Rattle.netlist.specs.Netlist.{Net}
use Rattle.gates.specs.Value.{is_unknown}
use Rattle.knowledge.proofs.Monotone.{More, MoreAt}

site_anti : (u v w x y : ℕ) → Refines v w → (x ≡ 0 → y ≡ 0) → site_touched u v x ≡ 0 → site_touched u w y ≡ 0
site_anti zero v w x y f g e =
    let q : v ≡ 0 = eqb-true v 0 (no_touch_not (eqb v 0) e) in
    let z : w ≡ 0 = sym (f (omega arith)) ∙ q in
    rw (eq-eqb w 0 z)
site_anti (suc zero) v w x y f g e =
    let q : v ≡ 1 = eqb-true v 1 (no_touch_not (eqb v 1) e) in
    let z : w ≡ 1 = sym (f (omega arith)) ∙ q in
    rw (eq-eqb w 1 z)
site_anti (suc (suc u)) v w x y f g e = g e

untouched_mono : (x y v w : ℕ) → (x ≡ 0 → y ≡ 0) → Refines v w → Refines (untouched_value x v) (untouched_value y w)
untouched_mono zero y v w g f = rw (g refl) f
untouched_mono (suc x) y v w g f = λ k. absurd (omega arith)

-- nothing in the one list is touched: nor is anything in the other
none-touched_anti : {b : ℕ} {xs : List ℕ} → Below b xs → (f g : ℕ → ℕ → ℕ) (k : ℕ) → ((k m : ℕ) → m < b → f k m ≡ 0 → g k m ≡ 0)
    → some_touched (indexed f k xs) ≡ false → some_touched (indexed g k xs) ≡ false
none-touched_anti bnil f g k h e = refl
none-touched_anti (bcons {x} {xs} p r) f g k h e = go (f k x) refl e (λ q. none-touched_anti r f g (suc k) h q) (g k x) refl
  where
    go : (a : ℕ) → f k x ≡ a → some_touched (a ∷ indexed f (suc k) xs) ≡ false → (some_touched (indexed f (suc k) xs) ≡ false → some_touched (indexed g (suc k) xs) ≡ false)
        → (b : ℕ) → g k x ≡ b → some_touched (b ∷ indexed g (suc k) xs) ≡ false
    go zero z e q zero w = q e
    go zero z e q (suc b) w = let u = h k x p z in absurd (omega arith)
    go (suc a) z e q b w = absurd (false≢true (sym e))

-- one frame, in which w knows all that v does
module _ (net : Net) (o : Ordered net) (D : StuckLines) (v w : ℕ → ℕ) (more : MoreAt net v w) where
  -- x and y say which sources of a node's pins are touched
  module _ (x y : ℕ → ℕ) (n b : ℕ) (wide : b ≤ net.size) (low : Below b (net.pins n)) (fewer : (m : ℕ) → m < b → x m ≡ 0 → y m ≡ 0) where
    pin_anti : (k m : ℕ) → m < b → pin_touched net D v x n k m ≡ 0 → pin_touched net D w y n k m ≡ 0
    unfolding pin_touched
    pin_anti k m h e = site_anti (D.pin n k) (v m) (w m) (x m) (y m) (more m (omega arith)) (fewer m h) e

    pins_anti : some_touched (pins_touched net D v x n) ≡ false → some_touched (pins_touched net D w y n) ≡ false
    pins_anti e = none-touched_anti low (pin_touched net D v x n) (pin_touched net D w y n) 0 pin_anti e

    values_mono : RefinesAll (untouched_values net D v x n) (untouched_values net D w y n)
    values_mono =
        indexed_refines low (λ k m. untouched_value (pin_touched net D v x n k m) (v m)) (λ k m. untouched_value (pin_touched net D w y n k m) (w m)) 0
        (λ k m h. untouched_mono (pin_touched net D v x n k m) (pin_touched net D w y n k m) (v m) (w m) (pin_anti k m h) (more m (omega arith)))

    gate_anti : gate_touched net D v x n ≡ 0 → gate_touched net D w y n ≡ 0
    gate_anti e = go (some_touched (pins_touched net D v x n)) refl (some_touched (pins_touched net D w y n)) refl
      where
        settled : some_touched (pins_touched net D v x n) ≡ true → gate (net.kind n) (untouched_values net D w y n) < 2
        settled q =
            let h = known_is (gate (net.kind n) (untouched_values net D v x n)) (no_touch (is_unknown (gate (net.kind n) (untouched_values net D v x n))) (gate-touched net D v x n q ∙ e)) in
            omega (arith, gate_mono (net.kind n) values_mono h)

        go : (p : Bool) → some_touched (pins_touched net D v x n) ≡ p → (q : Bool) → some_touched (pins_touched net D w y n) ≡ q → gate_touched net D w y n ≡ 0
        go p e false q = sym (gate_untouched net D w y n q)
        go true e true q = sym (touched-known (gate (net.kind n) (untouched_values net D w y n)) (settled e) ∙ gate-touched net D w y n q)
        go false e true q = absurd (false≢true (sym (pins_anti e) ∙ q))

  -- l and m: what was latched
  module _ (l m : ℕ → ℕ) (latched : (n : ℕ) → n < net.size → l n ≡ 0 → m n ≡ 0) where
    node_anti : (x y : ℕ → ℕ) (n : ℕ) → n < net.size → ((i : ℕ) → i < n → x i ≡ 0 → y i ≡ 0) → node_touched net D v l x n ≡ 0 → node_touched net D w m y n ≡ 0
    unfolding node_touched
    node_anti x y n h fewer =
        site_anti (D.node n) (v n) (w n) (cond (is_given (net.kind n)) (cond (is_flip_flop (net.kind n)) (l n) 0) (gate_touched net D v x n))
        (cond (is_given (net.kind n)) (cond (is_flip_flop (net.kind n)) (m n) 0) (gate_touched net D w y n)) (more n h) (go (is_given (net.kind n)) refl (is_flip_flop (net.kind n)))
      where
        go : (a : Bool) → is_given (net.kind n) ≡ a → (b : Bool) → cond a (cond b (l n) 0) (gate_touched net D v x n) ≡ 0 → cond a (cond b (m n) 0) (gate_touched net D w y n) ≡ 0
        go true p true z = latched n h z
        go true p false z = refl
        go false p b z = gate_anti x y n n (omega arith) (o.earlier n h p) fewer z

    -- THE law of what is touched: a node that is not touched stays so where more is known
    pub touched_anti : (n : ℕ) → n < net.size → at (touched_list net D v l) n ≡ 0 → at (touched_list net D w m) n ≡ 0
    touched_anti n h e = below (suc n) n (omega arith) h e
      where
        below : (i n : ℕ) → n < i → n < net.size → at (touched_list net D v l) n ≡ 0 → at (touched_list net D w m) n ≡ 0
        below zero n q h e = absurd (omega arith)
        below (suc i) n q h e =
            touched_law net D w m n o h
            ∙ node_anti (at (touched_list net D v l)) (at (touched_list net D w m)) n h (λ j p z. below i j (omega arith) (omega arith) z) (sym (touched_law net D v l n o h) ∙ e)

    pub latched_anti : (n : ℕ) → n < net.size → latched_touched net D v (at (touched_list net D v l)) n ≡ 0 → latched_touched net D w (at (touched_list net D w m)) n ≡ 0
    unfolding latched_touched
    latched_anti n h e = go (is_flip_flop (net.kind n)) e
      where
        x : ℕ → ℕ
        x = at (touched_list net D v l)

        y : ℕ → ℕ
        y = at (touched_list net D w m)

        go : (b : Bool) → cond b (one_if (some_touched (pins_touched net D v x n))) 0 ≡ 0 → cond b (one_if (some_touched (pins_touched net D w y n))) 0 ≡ 0
        go true z = ap one_if (pins_anti x y n net.size (omega arith) (o.within n h) touched_anti (no_touch (some_touched (pins_touched net D v x n)) z))
        go false z = refl

-- the frames from t on
module _ (net : Net) (o : Ordered net) (kn kn' : ℕ → ℕ → ℕ) (more : More net kn kn') (D : StuckLines) (t : ℕ) where
  -- what the flip-flops hand on to frame t + r
  handed_anti : (r n : ℕ) → n < net.size → at (latched_at net kn D t [] r) n ≡ 0 → at (latched_at net kn' D t [] r) n ≡ 0
  handed_anti zero n h e = refl
  handed_anti (suc r) n h e =
      latched_law net (starting_in net kn D r) (λ m. kn' m (t + r)) (at (touched_at net kn' D t [] r)) n h
      ∙ latched_anti net o (starting_in net kn D r) (λ m. kn m (t + r)) (λ m. kn' m (t + r)) (λ m p. more m (t + r) p)
      (at (latched_at net kn D t [] r)) (at (latched_at net kn' D t [] r)) (handed_anti r) n h
      (sym (latched_law net (starting_in net kn D r) (λ m. kn m (t + r)) (at (touched_at net kn D t [] r)) n h) ∙ e)

  frame_anti : (r n : ℕ) → n < net.size → at (touched_at net kn D t [] r) n ≡ 0 → at (touched_at net kn' D t [] r) n ≡ 0
  frame_anti r =
      touched_anti net o (starting_in net kn D r) (λ m. kn m (t + r)) (λ m. kn' m (t + r)) (λ m p. more m (t + r) p)
      (at (latched_at net kn D t [] r)) (at (latched_at net kn' D t [] r)) (handed_anti r)

  -- THE law of the trace: where the effect dies, it dies where more is known
  pub dies_mono : (F : ℕ) → effect_dies net kn F t D [] ≡ true → effect_dies net kn' F t D [] ≡ true
  dies_mono F e = says_dies net kn' F t D [] (record { outputs = λ r h n l k. frame_anti r n l (w.outputs r h n l k); pins = pins })
    where
      w : NothingTouched net kn F t D []
      w = dies_says net kn F t D [] e

      pins : (n : ℕ) → n < net.size → net.kind n ≡ 2 → (k : ℕ) → k < length (net.pins n)
          → pin_touched net (starting_in net kn' D F) (λ m. kn' m (t + F)) (at (touched_at net kn' D t [] F)) n k (at (net.pins n) k) ≡ 0
      pins n l q k g =
          pin_anti net o (starting_in net kn D F) (λ m. kn m (t + F)) (λ m. kn' m (t + F)) (λ m p. more m (t + F) p) (at (touched_at net kn D t [] F)) (at (touched_at net kn' D t [] F)) n net.size
          (omega arith) (o.within n l) (frame_anti F) k (at (net.pins n) k) (below_at (o.within n l) k g) (w.pins n l q k g)

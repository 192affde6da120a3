-- The effect trace depends on what is known within the window alone: nodes below N and frames below W.
use mathlib.Core.Bool.{Bool, ◌&&◌, cond, false, true}
use mathlib.Core.List.{List}
use mathlib.Core.Path.{◌∙◌, ◌≡◌, ap, refl, sym}
use Prim.Native.Nat.{◌+◌, ◌<◌, suc, zero, ℕ}
use native.Mathlib.Omega.{arith}
use borrow.Author.Tests.{ne_eqb}
use Rattle.trace.specs.Trace.{effect_dies, gate_touched, latched_touched, latched_touched_list, latched_untouched, one_if, touched_list, node_touched}
use Rattle.trace.specs.Trace.{output_untouched, pin_touched, pins_touched, site_touched, some_touched, untouched_value}
use Rattle.simulator.proofs.ClockLaws.{Ordered}
use Rattle.values.proofs.ListLaws.{Below, build_agree, build-same, every_fails, get_or-build, indexed_agree}
use Rattle.circuit.specs.Fault.{StuckLines, none_stuck}
use Rattle.gates.specs.Kind.{gate, is_flip_flop, is_given}
use Rattle.values.specs.Lists.{at, build, every}
use Rattle.netlist.specs.Netlist.{Net}
use Rattle.gates.specs.Value.{is_unknown}
use Rattle.knowledge.proofs.Agreement.{SameNodes, SameWindow}

-- One frame of the effect trace: whether a node is touched depends on what is known of it and its sources, and on whether these are.
module _ (net : Net) (D : StuckLines) (v w : ℕ → ℕ) where
  pub pins_touched_agree : (x y : ℕ → ℕ) (n : ℕ) {b : ℕ} → Below b (net.pins n) → ((m : ℕ) → m < b → v m ≡ w m) → ((m : ℕ) → m < b → x m ≡ y m)
      → pins_touched net D v x n ≡ pins_touched net D w y n
  unfolding pin_touched
  pins_touched_agree x y n p e h =
      indexed_agree p (pin_touched net D v x n) (pin_touched net D w y n) 0 (λ k m z. let q = e m z in let r = h m z in λ i. site_touched (D.pin n k) (q i) (r i))

  pub gate_touched_agree : (x y : ℕ → ℕ) (n : ℕ) {b : ℕ} → Below b (net.pins n) → ((m : ℕ) → m < b → v m ≡ w m) → ((m : ℕ) → m < b → x m ≡ y m)
      → gate_touched net D v x n ≡ gate_touched net D w y n
  unfolding gate_touched pin_touched
  gate_touched_agree x y n p e h =
      let r = pins_touched_agree x y n p e h in
      let q =
      indexed_agree p (λ k m. untouched_value (pin_touched net D v x n k m) (v m)) (λ k m. untouched_value (pin_touched net D w y n k m) (w m)) 0
      (λ k m z. let a = e m z in let b = h m z in λ i. untouched_value (site_touched (D.pin n k) (a i) (b i)) (a i)) in
      λ i. elim (some_touched (r i)) [ true ↦ one_if (is_unknown (gate (net.kind n) (q i))) | false ↦ 0 ]

  module _ (o : Ordered net) (e : SameNodes net v w) where
    pub node_touched_agree : (l m x y : ℕ → ℕ) (n : ℕ) → n < net.size → l n ≡ m n → ((i : ℕ) → i < n → x i ≡ y i) → node_touched net D v l x n ≡ node_touched net D w m y n
    unfolding node_touched
    node_touched_agree l m x y n h q r = let a = e n h in let b = go (is_given (net.kind n)) refl in λ i. site_touched (D.node n) (a i) (b i)
      where
        go : (b : Bool) → is_given (net.kind n) ≡ b
            → cond b (cond (is_flip_flop (net.kind n)) (l n) 0) (gate_touched net D v x n) ≡ cond b (cond (is_flip_flop (net.kind n)) (m n) 0) (gate_touched net D w y n)
        go true z = ap (λ (k : ℕ). cond (is_flip_flop (net.kind n)) k 0) q
        go false z = gate_touched_agree x y n (o.earlier n h z) (λ m p. e m (omega arith)) r

    pub touched_agree : (l m : ℕ → ℕ) → SameNodes net l m → touched_list net D v l ≡ touched_list net D w m
    unfolding touched_list
    touched_agree l m q =
        build-same (λ k n. node_touched net D v l (at k) n) (λ k n. node_touched net D w m (at k) n) net.size (λ k n h. node_touched_agree l m (at k) (at k) n h (q n h) (λ i p. refl))

    pub latched_touched_agree : (x y : ℕ → ℕ) → SameNodes net x y → SameNodes net (latched_touched net D v x) (latched_touched net D w y)
    unfolding latched_touched
    latched_touched_agree x y q n h = ap (λ (ms : List ℕ). cond (is_flip_flop (net.kind n)) (one_if (some_touched ms)) 0) (pins_touched_agree x y n (o.within n h) e q)

    pub latched_touched_list_agree : (x y : ℕ → ℕ) → SameNodes net x y → latched_touched_list net D v x ≡ latched_touched_list net D w y
    unfolding latched_touched_list
    latched_touched_list_agree x y q = build-same (λ _. latched_touched net D v x) (λ _. latched_touched net D w y) net.size (λ k n h. latched_touched_agree x y q n h)

module _ (net : Net) (D : StuckLines) (v : ℕ → ℕ) where
  -- whether node n is touched, where k says it of the nodes before it: touched_list makes its list by this
  abbrev pub touched_from : (ℕ → ℕ) → List ℕ → ℕ → ℕ
  touched_from latched k n = node_touched net D v latched (at k) n

  -- THE law of what is touched: of each node it is what its pins' sources give
  pub touched_law : (latched : ℕ → ℕ) (n : ℕ) → Ordered net → n < net.size → at (touched_list net D v latched) n ≡ node_touched net D v latched (at (touched_list net D v latched)) n
  unfolding touched_list
  touched_law latched n o h =
      get_or-build (touched_from latched) 0 net.size h
      ∙ node_touched_agree net D v v o (λ m p. refl) latched latched (at (build (touched_from latched) n)) (at (build (touched_from latched) net.size)) n h refl
      (λ m p. build_agree (touched_from latched) 0 p (omega arith))

  pub latched_law : (ms : ℕ → ℕ) (n : ℕ) → n < net.size → at (latched_touched_list net D v ms) n ≡ latched_touched net D v ms n
  unfolding latched_touched_list
  latched_law ms n h = get_or-build (λ _. latched_touched net D v ms) 0 net.size h

  -- one flip-flop with a touched pin is enough
  pub latched_fails : (ms : ℕ → ℕ) (i n r : ℕ) → n ≡ net.size → i < n → r ≡ latched_touched net D v ms i → (r ≡ 0 → ⊥)
      → false ≡ every (latched_untouched (latched_touched_list net D v ms)) n
  latched_fails ms i n r e h q d =
      let b : i < net.size = omega (arith, e, h) in
      sym (every_fails (latched_untouched (latched_touched_list net D v ms)) n i h (ne_eqb _ 0 (λ z. d (q ∙ sym (latched_law ms i b) ∙ z))))

module _ (net : Net) (o : Ordered net) (W : ℕ) (kn kn' : ℕ → ℕ → ℕ) (e : SameWindow net W kn kn') where
  -- frame t: what is touched in it, and which flip-flops are in the next frame
  module _ (t : ℕ) (D : StuckLines) (l m : List ℕ) (b : t < W) (q : SameNodes net (at l) (at m)) where
    touched_now : touched_list net D (λ n. kn n t) (at l) ≡ touched_list net D (λ n. kn' n t) (at m)
    touched_now = touched_agree net D (λ n. kn n t) (λ n. kn' n t) o (λ n h. e n t h b) (at l) (at m) q

    touched-next : latched_touched_list net D (λ n. kn n t) (at (touched_list net D (λ n. kn n t) (at l))) ≡ latched_touched_list net D (λ n. kn' n t) (at (touched_list net D (λ n. kn' n t) (at m)))
    touched-next =
        latched_touched_list_agree net D (λ n. kn n t) (λ n. kn' n t) o (λ n h. e n t h b) (at (touched_list net D (λ n. kn n t) (at l))) (at (touched_list net D (λ n. kn' n t) (at m)))
        (λ n h. ap (λ (k : List ℕ). at k n) touched_now)

  -- THE law for the trace: it depends on what is known within the window, and on which flip-flops are touched at the places of nodes
  pub dies_agree : (r t : ℕ) (D : StuckLines) (l m : List ℕ) → t + r < W → SameNodes net (at l) (at m) → effect_dies net kn r t D l ≡ effect_dies net kn' r t D m
  unfolding effect_dies
  dies_agree zero t D l m b q =
      let p = touched_now t D l m (omega arith) q in
      let s = touched-next t D l m (omega arith) q in
      λ i. every (output_untouched net (p i)) net.size && every (latched_untouched (s i)) net.size
  dies_agree (suc r) t D l m b q =
      let p = touched_now t D l m (omega arith) q in
      let s = touched-next t D l m (omega arith) q in
      let z =
      dies_agree r (suc t) none_stuck (latched_touched_list net D (λ n. kn n t) (at (touched_list net D (λ n. kn n t) (at l))))
      (latched_touched_list net D (λ n. kn' n t) (at (touched_list net D (λ n. kn' n t) (at m)))) (omega arith) (λ n h. ap (λ (k : List ℕ). at k n) s) in
      λ i. every (output_untouched net (p i)) net.size && z i

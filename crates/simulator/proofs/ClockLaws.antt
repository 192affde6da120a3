-- Laws of the clock step: the seen values are the solution of the circuit's equations.
use mathlib.Core.Bool.{Bool, ◌||◌, cond, false, true, true≢false}
use mathlib.Core.List.{List, ◌++◌}
use mathlib.Core.Logic.{◌⊎◌, inl, inr}
use mathlib.Core.Path.{◌∙◌, ◌≡◌, ap, refl, sym}
use Prim.Native.Nat.{◌<◌, ◌≤◌, suc, zero, ℕ}
use native.Mathlib.Omega.{arith}
use lib.ListN.{drop, length}
use borrow.Author.Tests.{eqb-true, ne_eqb}
use Rattle.gates.proofs.GateLaws.{Refines, RefinesAll, indexed_refines, stuck_mono}
use Rattle.values.proofs.ListLaws.{Below, below-table, build_agree, build-end, build-read, build-rest, build-same, get_or-build, indexed_agree, rewritten-build}
use Rattle.gates.proofs.ValueLaws.{stuck-free, stuck-known}
use Rattle.netlist.proofs.SoundLaws.{Facts, facts}
use Rattle.simulator.specs.Clock.{latched_by, latched_list, pin_values, seen_by, seen_list}
use Rattle.simulator.specs.Inner.Places.{latched_into, settled}
use Rattle.circuit.proofs.FaultLaws.{held_free, held_is, held_low}
use Rattle.circuit.specs.Fault.{StuckLines, held}
use Rattle.std.specs.Prelude.{Some}
use Rattle.gates.specs.Kind.{gate, is_flip_flop, is_given, is_input}
use Rattle.values.specs.Lists.{at, build}
use Rattle.netlist.specs.Netlist.{Net, kind_of, length_of, net_of, node_count, pins_of, reading, sound, source_of}
use Rattle.gates.specs.Value.{stuck_or}

module _ (c : Net) (s : StuckLines) (given v : ℕ → ℕ) (n : ℕ) where
  -- a faulted node is seen at its stuck value
  pub seen_by-stuck : s.node n < 2 → seen_by c s given v n ≡ s.node n
  unfolding seen_by
  seen_by-stuck h = stuck-known (s.node n) _ h

  pub seen_by-held : (u : ℕ) → held (s.node n) ≡ Some u → u ≡ seen_by c s given v n
  seen_by-held u e = held_is (s.node n) u e ∙ sym (seen_by-stuck (held_low (s.node n) u e))

  -- another input or flip-flop at what the clock step is given there
  pub seen_by-given : 2 ≤ s.node n → is_given (c.kind n) ≡ true → seen_by c s given v n ≡ given n
  unfolding seen_by
  seen_by-given h e = stuck-free (s.node n) _ h ∙ rw e

  -- any other node at its gate's function of what its pins read
  pub seen_by-gate : 2 ≤ s.node n → is_given (c.kind n) ≡ false → seen_by c s given v n ≡ gate (c.kind n) (pin_values c s v n)
  unfolding seen_by
  seen_by-gate h e = stuck-free (s.node n) _ h ∙ rw e

-- what a node is seen as, in each of these cases
pub ruleset seen_cases = (seen_by-held, held_free, seen_by-given, seen_by-gate)

-- a circuit without loops but through flip-flops: sources are nodes, and a gate's or output's sources have smaller numbers
pub record Ordered (c : Net) : Type 0 where
  pub within : (n : ℕ) → n < c.size → Below c.size (c.pins n)
  pub earlier : (n : ℕ) → n < c.size → is_given (c.kind n) ≡ false → Below n (c.pins n)

-- a node that is given is an input or a flip-flop
pub given-kind : (k : ℕ) → is_given k ≡ true → (k ≡ 0) ⊎ (k ≡ 2)
given-kind k e = go (is_input k) refl e
  where
    go : (b : Bool) → is_input k ≡ b → (b || is_flip_flop k) ≡ true → (k ≡ 0) ⊎ (k ≡ 2)
    go true q e = inl (eqb-true k 0 q)
    go false q e = inr (eqb-true k 2 e)

-- and no other node is a flip-flop
pub not_given : (k : ℕ) → is_given k ≡ false → k ≡ 2 → ⊥
not_given k e q = true≢false (rw q at e)

pub sound-ordered : (bs : List ℕ) (n p : ℕ) → reading bs ≡ sound n p → Ordered (net_of bs)
unfolding net_of pins_of
sound-ordered bs n p e =
    record {
      within = λ i h. below-table (source_of bs i) (node_count bs) (length_of bs i) (λ k l. rw f.nodes at (f.source_node i k (low i h) l));
      earlier = λ i h q. below-table (source_of bs i) i (length_of bs i) (λ k l. f.source_smaller i k (low i h) l (not_given (kind_of bs i) q));
    }
  where
    f : Facts bs n p
    f = facts bs n p e

    low : (i : ℕ) → i < node_count bs → i < n
    low i h = omega (arith, f.nodes)

module _ (c : Net) (s : StuckLines) where
  -- what a node's pins read depends on the seen values of its sources alone
  pub pin_values_agree : (v w : ℕ → ℕ) (n : ℕ) {b : ℕ} → Below b (c.pins n) → ((m : ℕ) → m < b → v m ≡ w m) → pin_values c s v n ≡ pin_values c s w n
  unfolding pin_values
  pin_values_agree v w n p h = indexed_agree p (λ k m. stuck_or (s.pin n k) (v m)) (λ k m. stuck_or (s.pin n k) (w m)) 0 (λ k m q. ap (stuck_or (s.pin n k)) (h m q))

  -- and where more is known of the sources, more is known of what the pins read
  pub pin_values_refines : (v w : ℕ → ℕ) (n : ℕ) {b : ℕ} → Below b (c.pins n) → ((m : ℕ) → m < b → Refines (v m) (w m)) → RefinesAll (pin_values c s v n) (pin_values c s w n)
  unfolding pin_values
  pin_values_refines v w n p h =
      indexed_refines p (λ k m. stuck_or (s.pin n k) (v m)) (λ k m. stuck_or (s.pin n k) (w m)) 0 (λ k m q. stuck_mono (s.pin n k) (v m) (w m) (h m q))

  -- what a node is seen as depends on the seen values below it alone
  pub seen_by_agree : (g v w : ℕ → ℕ) (n : ℕ) → Ordered c → n < c.size → ((m : ℕ) → m < n → v m ≡ w m) → seen_by c s g v n ≡ seen_by c s g w n
  unfolding seen_by
  seen_by_agree g v w n o h e = ap (stuck_or (s.node n)) (go (is_given (c.kind n)) refl)
    where
      go : (b : Bool) → is_given (c.kind n) ≡ b → cond b (g n) (gate (c.kind n) (pin_values c s v n)) ≡ cond b (g n) (gate (c.kind n) (pin_values c s w n))
      go true q = refl
      go false q = ap (gate (c.kind n)) (pin_values_agree v w n (o.earlier n h q) e)

  -- and of what the clock step is given on its own place alone, and there only if it is an input or a flip-flop
  pub given_agree : (g h v : ℕ → ℕ) (n : ℕ) → (is_given (c.kind n) ≡ true → g n ≡ h n) → seen_by c s g v n ≡ seen_by c s h v n
  unfolding seen_by
  given_agree g h v n e = ap (stuck_or (s.node n)) (go (is_given (c.kind n)) refl)
    where
      go : (b : Bool) → is_given (c.kind n) ≡ b → cond b (g n) (gate (c.kind n) (pin_values c s v n)) ≡ cond b (h n) (gate (c.kind n) (pin_values c s v n))
      go true q = e q
      go false q = refl

  -- the seen value of node n, where l has those of the nodes before it: seen_list makes its list by this
  abbrev pub seen_next : (ℕ → ℕ) → List ℕ → ℕ → ℕ
  seen_next g l n = seen_by c s g (at l) n

  -- THE law of the seen values: each node's is the function of what the node reads
  pub seen_law : (g : ℕ → ℕ) (n : ℕ) → Ordered c → n < c.size → at (seen_list c s g) n ≡ seen_by c s g (at (seen_list c s g)) n
  unfolding seen_list
  seen_law g n o h =
      get_or-build (seen_next g) 0 c.size h
      ∙ seen_by_agree g (at (build (seen_next g) n)) (at (build (seen_next g) c.size)) n o h (λ m p. build_agree (seen_next g) 0 p (omega arith))

  -- and no other values solve the equations
  pub seen_only : (g v : ℕ → ℕ) → Ordered c → ((n : ℕ) → n < c.size → v n ≡ seen_by c s g v n) → (n : ℕ) → n < c.size → v n ≡ at (seen_list c s g) n
  seen_only g v o e n h = go (suc n) n (omega arith) h
    where
      go : (b n : ℕ) → n < b → n < c.size → v n ≡ at (seen_list c s g) n
      go zero n l h = absurd (omega arith)
      go (suc b) n l h =
          e n h
          ∙ seen_by_agree g v (at (seen_list c s g)) n o h (λ m q. go b m (omega arith) (omega arith))
          ∙ sym (seen_law g n o h)

  -- only the places of inputs and flip-flops are read
  pub seen_list_agree : (g h : ℕ → ℕ) → ((n : ℕ) → n < c.size → is_given (c.kind n) ≡ true → g n ≡ h n) → seen_list c s g ≡ seen_list c s h
  unfolding seen_list
  seen_list_agree g h e = build-same (seen_next g) (seen_next h) c.size (λ l n p. given_agree g h (at l) n (e n p))

  pub latched-at : (v : ℕ → ℕ) (n : ℕ) → n < c.size → at (latched_list c s v) n ≡ latched_by c s v n
  unfolding latched_list
  latched-at v n h = get_or-build (λ _. latched_by c s v) 0 c.size h

  -- 0 at other nodes: nothing is latched where there is no flip-flop
  pub latched-other : (v : ℕ → ℕ) (n : ℕ) → (c.kind n ≡ 2 → ⊥) → latched_by c s v n ≡ 0
  unfolding latched_by
  latched-other v n h = rw (ne_eqb (c.kind n) 2 h)

  pub latched_zero : (v : ℕ → ℕ) (n : ℕ) → n < c.size → (c.kind n ≡ 2 → ⊥) → at (latched_list c s v) n ≡ 0
  latched_zero v n h k = latched-at v n h ∙ latched-other v n k

  -- A loop that writes the seen values over what the step was given, by rising node, e being the slice when node i is reached:
  -- the node's value, read and given from e, is the next one of the list.
  pub seen_turn : (d : List ℕ) (i : ℕ) → Ordered c → i < c.size → c.size ≡ length d
      → seen_by c s (at (build (seen_next (at d)) i ++ drop i d)) (at (build (seen_next (at d)) i ++ drop i d)) i ≡ seen_next (at d) (build (seen_next (at d)) i) i
  seen_turn d i o h q =
      let f = seen_next (at d) in
      let e = build f i ++ drop i d in
      seen_by_agree (at e) (at e) (at (build f i)) i o h (build-read f d i)
      ∙ given_agree (at e) (at d) (at (build f i)) i (λ _. build-rest f d i (omega arith))

  -- so the slice then holds the seen values
  pub settled_seen : (d : List ℕ) → Ordered c → length d ≡ c.size → settled c s c.size d ≡ seen_list c s (at d)
  unfolding settled seen_list
  settled_seen d o h =
      let f = seen_next (at d) in
      rewritten-build (λ e. seen_by c s (at e) (at e)) f d c.size (omega arith) (λ i l. seen_turn d i o l (sym h))
      ∙ build-end f d c.size c.size refl h

  -- and a slice into which the latched values are put then holds them
  pub latched_into_lem : (v : ℕ → ℕ) (d : List ℕ) → length d ≡ c.size → latched_into c s v c.size d ≡ latched_list c s v
  unfolding latched_into latched_list
  latched_into_lem v d h =
      let f : List ℕ → ℕ → ℕ = λ _. latched_by c s v in
      rewritten-build f f d c.size (omega arith) (λ i l. refl) ∙ build-end f d c.size c.size refl h

-- How knowledge lies in a work slice: values that are stored there are known, and nothing else changes; and a branch after its split, and
-- after a step.
use mathlib.Core.Bool.{Bool, ◌&&◌, cond, false, true, true≢false}
use mathlib.Core.List.{List, [], ◌++◌, ◌∷◌}
use mathlib.Core.Path.{◌∙◌, ◌≡◌, ap, refl, subst, sym}
use Prim.Native.Nat.{◌%◌, ◌*◌, ◌+◌, ◌/◌, ◌<◌, ◌≤◌, suc, zero, ℕ}
use native.Mathlib.Decide.{dec_lt, ℕ_discrete}
use native.Mathlib.Nat.{mul_comm}
use native.Mathlib.Omega.{arith}
use lib.Arith.{digits_div, digits_lt, digits_mod}
use lib.Dec.{eqb, leb, ltb}
use borrow.Author.Tests.{leb-true, ltb-true}
use lib.ListN.{get_or, get_or-replicate, length, length-replicate, length-set, replicate, set}
use lib.Seq.{get_or-set_other, get_or-set_same}
use Rattle.knowledge.proofs.RelationLaws.{absent_from, present_below_lem}
use Rattle.knowledge.proofs.WindowLaws.{begin-cases, enter-cases}
use Rattle.knowledge.specs.Window.{Branch, begin, enter, known, present_below, held}
use Rattle.knowledge.specs.Inner.Slice.{Entered, Holds, begin_at, begin_in, enter_at, entered, hold_frames}
use Rattle.values.proofs.BoolLaws.{and_left, and_right}
use Rattle.circuit.proofs.FaultLaws.{other-nodes}
use Rattle.gates.proofs.ValueLaws.{differing, known-low, stuck-free, stuck-known, unknown_free, unknown_high}
use Rattle.circuit.specs.Fault.{StuckLines, fault_exists, is_whole, lines_of, none_stuck, site_exists}
use Rattle.values.specs.Lists.{at}
use Rattle.netlist.specs.Netlist.{Net}
use Rattle.gates.specs.Value.{differ, is_unknown, stuck_or}
use Rattle.circuit.specs.declared.fault.Fault.{Fault}
use Rattle.certificate.specs.declared.step.Step.{Step}

-- the place of a node at a frame lies in the window, and no other node and frame has it
pub place-within : (N W n t : ℕ) → n < N → t < W → t * N + n < N * W
place-within N W n t h g = rw (mul_comm N W) (digits_lt g h)

pub place-node : (N n t m u : ℕ) → n < N → m < N → u * N + m ≡ t * N + n → m ≡ n
place-node N n t m u h g e = sym (digits_mod u g) ∙ ap (λ (x : ℕ). x % N) e ∙ digits_mod t h

pub place-frame : (N n t m u : ℕ) → n < N → m < N → u * N + m ≡ t * N + n → u ≡ t
place-frame N n t m u h g e = sym (digits_div u g) ∙ ap (λ (x : ℕ). x / N) e ∙ digits_div t h

-- a fault that exists has a node of the circuit, and is stuck at 0 or 1
pub fault_says : (net : Net) (f : Fault) → fault_exists net f ≡ true → (f.node < net.size) × (f.stuck < 2)
unfolding fault_exists
fault_says net f e =
    let rest = site_exists f.site (length (net.pins f.node)) && leb f.stuck 1 in
    let a = ltb-true f.node net.size (and_left (ltb f.node net.size) rest e) in
    let b = leb-true f.stuck 1 (and_right (site_exists f.site (length (net.pins f.node))) (leb f.stuck 1) (and_right (ltb f.node net.size) rest e)) in
    (a, omega arith)

-- a faulted node's value where nothing is known of it yet
pub held-value : (f : Fault) → f.stuck < 2 → (lines_of f).node f.node ≡ stuck_or ((lines_of f).node f.node) 2
unfolding lines_of
held-value f h = go (eqb f.node f.node && is_whole f.site)
  where
    go : (b : Bool) → cond b f.stuck 2 ≡ stuck_or (cond b f.stuck 2) 2
    go true = sym (stuck-known f.stuck 2 h)
    go false = refl

pub none-held : (f : Fault) (m : ℕ) → (m ≡ f.node → ⊥) → 2 ≤ (lines_of f).node m
none-held f m d = omega (arith, other-nodes f m (λ e _. d (sym e)))

-- holding a node keeps the slice's length
pub held-length : (N : ℕ) (f : Fault) (c : ℕ) (bytes : List ℕ) → length (hold_frames N f c bytes) ≡ length bytes
unfolding hold_frames
held-length N f zero bytes = refl
held-length N f (suc t) bytes = simp length-set (held-length N f t bytes)

module _ (net : Net) where
  -- before anything is held, a slice of unknown values
  pub holds-start : (f : StuckLines) (W : ℕ) → Holds net (present_below 0 f) W (replicate (net.size * W) 2) (replicate (net.size * W) 2)
  unfolding Holds known held
  holds-start f W n t h g =
      let p = place-within net.size W n t h g in
      get_or-replicate (net.size * W) (t * net.size + n) 2 0 p ∙ sym (get_or-replicate (net.size * W) (t * net.size + n) 2 2 p)

  -- frame t more is held: the faulted node's value is stored in it
  pub holds_frame : (f : StuckLines) (W t i : ℕ) (l bytes : List ℕ) → i < net.size → t < W → length bytes ≡ net.size * W
      → f.node i ≡ stuck_or (f.node i) (get_or l (t * net.size + i) 2)
      → ((m : ℕ) → (m ≡ i → ⊥) → 2 ≤ f.node m)
      → Holds net (present_below t f) W l bytes
      → Holds net (present_below (suc t) f) W l (set bytes (t * net.size + i) (f.node i))
  unfolding Holds known held
  holds_frame f W t i l bytes hi ht len e others p n u hn hu = go (ℕ_discrete u t) (ℕ_discrete n i)
    where
      N : ℕ
      N = net.size

      value : ℕ
      value = get_or l (u * net.size + n) 2

      apart : (u * net.size + n ≡ t * net.size + i → ⊥) → at (set bytes (t * net.size + i) (f.node i)) (u * net.size + n) ≡ stuck_or ((present_below t f u).node n) value
      apart d = get_or-set_other bytes (t * net.size + i) (u * net.size + n) (f.node i) 0 d ∙ p n u hn hu

      now_present : u ≡ t → present_below (suc t) f u ≡ f
      now_present z = present_below_lem (suc t) f u (omega (arith, z))

      before : u ≡ t → present_below t f u ≡ none_stuck
      before z = absent_from t f u (omega (arith, z))

      unchanged : (u ≡ t → ⊥) → Dec (u < t) → present_below t f u ≡ present_below (suc t) f u
      unchanged d (yes q) = present_below_lem t f u q ∙ sym (present_below_lem (suc t) f u (omega arith))
      unchanged d (no q) = absent_from t f u (omega arith) ∙ sym (absent_from (suc t) f u (omega arith))

      go : Dec (u ≡ t) → Dec (n ≡ i) → at (set bytes (t * net.size + i) (f.node i)) (u * net.size + n) ≡ stuck_or ((present_below (suc t) f u).node n) value
      go (yes z) (yes w) =
          subst (λ (k : ℕ). at (set bytes (t * net.size + i) (f.node i)) k ≡ f.node i) (λ j. sym z j * net.size + sym w j)
          (get_or-set_same bytes (t * net.size + i) (f.node i) 0 (omega (arith, len, place-within N W i t hi ht)))
          ∙ e
          ∙ (λ j. stuck_or ((sym (now_present z) j).node (sym w j)) (get_or l (sym z j * net.size + sym w j) 2))
      go (yes z) (no w) =
          apart (λ q. w (place-node N i t n u hi hn q))
          ∙ (λ j. stuck_or ((before z j).node n) value)
          ∙ sym (stuck-free (f.node n) value (others n w))
          ∙ (λ j. stuck_or ((sym (now_present z) j).node n) value)
      go (no z) d = apart (λ q. z (place-frame N i t n u hi hn q)) ∙ (λ j. stuck_or ((unchanged z (dec_lt u t) j).node n) value)

  -- a value is stored at a place where nothing else is held
  pub holds-set : (S : ℕ → StuckLines) (W n t v : ℕ) (l bytes : List ℕ) → n < net.size → t < W
      → length bytes ≡ net.size * W → length l ≡ net.size * W → v ≡ stuck_or (held net S n t) v
      → Holds net S W l bytes
      → Holds net S W (set l (t * net.size + n) v) (set bytes (t * net.size + n) v)
  unfolding Holds known
  holds-set S W n t v l bytes hn ht lb ll e p m u hm hu = go (ℕ_discrete u t) (ℕ_discrete m n)
    where
      N : ℕ
      N = net.size

      k : ℕ
      k = t * net.size + n

      inside : t * net.size + n < net.size * W
      inside = place-within N W n t hn ht

      apart : (u * net.size + m ≡ t * net.size + n → ⊥)
          → at (set bytes (t * net.size + n) v) (u * net.size + m) ≡ stuck_or (held net S m u) (get_or (set l (t * net.size + n) v) (u * net.size + m) 2)
      apart d =
          get_or-set_other bytes (t * net.size + n) (u * net.size + m) v 0 d
          ∙ p m u hm hu
          ∙ ap (stuck_or (held net S m u)) (sym (get_or-set_other l (t * net.size + n) (u * net.size + m) v 2 d))

      go : Dec (u ≡ t) → Dec (m ≡ n) → at (set bytes (t * net.size + n) v) (u * net.size + m) ≡ stuck_or (held net S m u) (get_or (set l (t * net.size + n) v) (u * net.size + m) 2)
      go (yes z) (yes w) =
          rw (z, w)
          (get_or-set_same bytes (t * net.size + n) v 0 (omega (arith, lb, inside))
          ∙ e
          ∙ ap (stuck_or (held net S n t)) (sym (get_or-set_same l (t * net.size + n) v 2 (omega (arith, ll, inside)))))
      go (yes z) (no w) = apart (λ q. w (place-node N n t m u hn hm q))
      go (no z) d = apart (λ q. z (place-frame N n t m u hn hm q))

  -- a branch, and a work slice that is a window of W frames, in which the same is known
  module _ (S : ℕ → StuckLines) (W : ℕ) where
    pub record InSlice (b : Branch) (e : Entered) : Type 0 where
      pub holds : Holds net S W b.values e.bytes
      pub full : length e.bytes ≡ net.size * W
      pub wide : length b.values ≡ net.size * W
      pub same_closed : e.closed ≡ b.closed

    -- a step that is entered into both
    module _ (b : Branch) (e : Entered) (r : InSlice b e) (s : Step) (hn : s.node < net.size) (ht : s.frame < W) where
      within_bytes : Bool → Entered
      within_bytes q = cond q (entered false (set e.bytes (s.frame * net.size + s.node) s.value)) (entered true e.bytes)

      by-test : {x : Branch} (q : Bool) → is_unknown (known net S b.values s.node s.frame) ≡ q → InSlice x (within_bytes q)
          → InSlice x (enter_at e.bytes (s.frame * net.size + s.node) s.value)
      unfolding Holds within_bytes
      by-test {x} q z = subst (λ (y : Bool). InSlice x (within_bytes y)) (sym (ap is_unknown (r.holds s.node s.frame hn ht) ∙ z))

      pub enter_in_slice : InSlice (enter net S b s) (enter_at e.bytes (s.frame * net.size + s.node) s.value)
      unfolding within_bytes known
      enter_in_slice =
          enter-cases net S (λ x. InSlice x (enter_at e.bytes (s.frame * net.size + s.node) s.value)) b s
          (λ z.
          by-test true z
          (record {
            holds = holds-set S W s.node s.frame s.value b.values e.bytes hn ht r.full r.wide
                (unknown_free (held net S s.node s.frame) (get_or b.values (s.frame * net.size + s.node) 2) s.value z) r.holds;
            full = length-set e.bytes (s.frame * net.size + s.node) s.value ∙ r.full;
            wide = length-set b.values (s.frame * net.size + s.node) s.value ∙ r.wide;
            same_closed = refl;
          }))
          (λ z. by-test false z (record { holds = r.holds; full = r.full; wide = r.wide; same_closed = refl }))

  -- a branch's start
  module _ (S : ℕ → StuckLines) (W n t v : ℕ) where
    -- A split opposite to a held value is itself a contradiction and closes the branch with no step; any other is put in its place.
    pub begin_closed : differ (known net S [] n t) v ≡ true → begin net S W n t v ≡ record { values = replicate (net.size * W) 2; steps = []; closed = true }
    begin_closed e =
        begin-cases net S (λ (x : Branch). x ≡ record { values = replicate (net.size * W) 2; steps = []; closed = true }) W n t v
        (λ z. refl)
        (λ z. absurd (true≢false (sym e ∙ z)))

    pub begin_open : differ (known net S [] n t) v ≡ false → begin net S W n t v ≡ record { values = set (replicate (net.size * W) 2) (t * net.size + n) v; steps = []; closed = false }
    begin_open e =
        begin-cases net S (λ (x : Branch). x ≡ record { values = set (replicate (net.size * W) 2) (t * net.size + n) v; steps = []; closed = false }) W n t v
        (λ z. absurd (true≢false (sym z ∙ e)))
        (λ z. refl)

    -- nothing but held values is known at the start
    pub start_known : n < net.size → t < W → known net S (replicate (net.size * W) 2) n t ≡ known net S [] n t
    unfolding known
    start_known h g = ap (stuck_or (held net S n t)) (get_or-replicate (net.size * W) (t * net.size + n) 2 2 (place-within net.size W n t h g))

    -- a split that contradicts no held value is known
    pub split_known : v < 2 → differ (known net S [] n t) v ≡ false → v ≡ stuck_or (held net S n t) v
    unfolding known
    split_known h e = go (held net S n t) v h e
      where
        go : (x v : ℕ) → v < 2 → differ (stuck_or x 2) v ≡ false → v ≡ stuck_or x v
        go zero zero h e = refl
        go zero (suc zero) h e = absurd (true≢false e)
        go zero (suc (suc v)) h e = absurd (omega arith)
        go (suc zero) zero h e = absurd (true≢false e)
        go (suc zero) (suc zero) h e = refl
        go (suc zero) (suc (suc v)) h e = absurd (omega arith)
        go (suc (suc x)) v h e = refl

    -- branch v knows that the split has value v
    pub begin_known : v < 2 → n < net.size → t < W → differ (known net S [] n t) v ≡ false → known net S (begin net S W n t v).values n t ≡ v
    unfolding known
    begin_known hv hn ht e =
        ap (λ (x : Branch). known net S x.values n t) (begin_open e)
        ∙ ap (stuck_or (held net S n t))
        (get_or-set_same (replicate (net.size * W) 2) (t * net.size + n) v 2 (omega (arith, length-replicate {A = ℕ} (net.size * W) 2, place-within net.size W n t hn ht)))
        ∙ sym (split_known hv e)

  -- a branch after a step
  module _ (S : ℕ → StuckLines) (b : Branch) (s : Step) where
    -- A conclusion opposite to a known value is the last step and closes the branch.
    pub enter_closed : differ (known net S b.values s.node s.frame) s.value ≡ true → enter net S b s ≡ record { values = b.values; steps = b.steps ++ (s ∷ []); closed = true }
    enter_closed e =
        enter-cases net S (λ (x : Branch). x ≡ record { values = b.values; steps = b.steps ++ (s ∷ []); closed = true }) b s
        (λ z. absurd (true≢false (sym z ∙ known-low (known net S b.values s.node s.frame) (differing (known net S b.values s.node s.frame) s.value e).left_known)))
        (λ z. refl)

    -- Each new value is a step: the branch stays open,
    pub enter_open : 2 ≤ known net S b.values s.node s.frame
        → enter net S b s ≡ record { values = set b.values (s.frame * net.size + s.node) s.value; steps = b.steps ++ (s ∷ []); closed = false }
    enter_open h =
        enter-cases net S (λ (x : Branch). x ≡ record { values = set b.values (s.frame * net.size + s.node) s.value; steps = b.steps ++ (s ∷ []); closed = false }) b s
        (λ z. refl)
        (λ z. absurd (true≢false (sym (unknown_high (known net S b.values s.node s.frame) h) ∙ z)))

    -- and the value is known then
    pub enter_known : (W : ℕ) → length b.values ≡ net.size * W → s.node < net.size → s.frame < W → 2 ≤ known net S b.values s.node s.frame
        → known net S (enter net S b s).values s.node s.frame ≡ s.value
    unfolding known
    enter_known W l hn hf h =
        ap (λ (x : Branch). known net S x.values s.node s.frame) (enter_open h)
        ∙ ap (stuck_or (held net S s.node s.frame)) (get_or-set_same b.values (s.frame * net.size + s.node) s.value 2 (omega (arith, l, place-within net.size W s.node s.frame hn hf)))
        ∙ sym (unknown_free (held net S s.node s.frame) (get_or b.values (s.frame * net.size + s.node) 2) s.value (unknown_high _ h))

  -- a branch's start in a work slice that is a window of W frames
  module _ (f : Fault) (W : ℕ) (hf : f.node < net.size) (hu : f.stuck < 2) where
    -- the faulted node is held in the first c frames, and nothing else is known
    pub holds_frames : (c : ℕ) → c ≤ W → Holds net (present_below c (lines_of f)) W (replicate (net.size * W) 2) (hold_frames net.size f c (replicate (net.size * W) 2))
    unfolding hold_frames
    holds_frames zero h = holds-start (lines_of f) W
    holds_frames (suc t) h =
        let g : t < W = omega arith in
        let N : ℕ = net.size in
        let l : List ℕ = replicate (N * W) 2 in
        let e : (lines_of f).node f.node ≡ stuck_or ((lines_of f).node f.node) (get_or l (t * N + f.node) 2) =
        held-value f hu ∙ ap (stuck_or ((lines_of f).node f.node)) (sym (get_or-replicate (N * W) (t * N + f.node) 2 2 (place-within N W f.node t hf g))) in
        holds_frame (lines_of f) W t f.node l (hold_frames N f t l) hf g (held-length N f t l ∙ length-replicate (N * W) 2) e (none-held f) (holds_frames t (omega arith))

    -- `begin_in` is `begin`: the branch closes at the same splits, and the bytes hold what is known in it
    module _ (c n t v : ℕ) (hc : c ≤ W) (hn : n < net.size) (ht : t < W) (hv : v < 2) where
      begins : ((begin_in net.size f c (net.size * W) n t v).closed ≡ (begin net (present_below c (lines_of f)) W n t v).closed)
          × Holds net (present_below c (lines_of f)) W (begin net (present_below c (lines_of f)) W n t v).values (begin_in net.size f c (net.size * W) n t v).bytes
      unfolding Holds begin_in begin_at
      begins =
          begin-cases net S (λ (x : Branch). both x (by-test (differ (at bytes place) v))) W n t v
          (λ e. subst (λ (x : Bool). both (record { values = l; steps = []; closed = true }) (by-test x)) (sym (test ∙ e)) (refl, holds_frames c hc))
          (λ e.
          subst (λ (x : Bool). both (record { values = set l place v; steps = []; closed = false }) (by-test x)) (sym (test ∙ e)) (
            refl,
            holds-set S W n t v l bytes hn ht (held-length net.size f c l ∙ length-replicate (net.size * W) 2) (length-replicate (net.size * W) 2)
                (split_known S W n t v hv e) (holds_frames c hc),
          ))
        where
          S : ℕ → StuckLines
          S = present_below c (lines_of f)

          place : ℕ
          place = t * net.size + n

          l : List ℕ
          l = replicate (net.size * W) 2

          bytes : List ℕ
          bytes = hold_frames net.size f c l

          test : differ (at bytes place) v ≡ differ (known net S [] n t) v
          test = ap (λ (x : ℕ). differ x v) (holds_frames c hc n t hn ht ∙ start_known S W n t v hn ht)

          both : Branch → Entered → Type 0
          both b e = (e.closed ≡ b.closed) × Holds net S W b.values e.bytes

          by-test : Bool → Entered
          by-test b = cond b (entered true bytes) (entered false (set bytes place v))

      pub begin_closed_in : (begin_in net.size f c (net.size * W) n t v).closed ≡ (begin net (present_below c (lines_of f)) W n t v).closed
      begin_closed_in = begins.0

      pub begin_holds_in : Holds net (present_below c (lines_of f)) W (begin net (present_below c (lines_of f)) W n t v).values (begin_in net.size f c (net.size * W) n t v).bytes
      begin_holds_in = begins.1

-- Laws of what is touched, as the code works it out: pin by pin from the last one on, and test by test.
use mathlib.Core.Bool.{Bool, ◌&&◌, ◌||◌, cond, false, not, true}
use mathlib.Core.List.{List, [], ◌++◌, ◌∷◌}
use mathlib.Core.Path.{◌∙◌, ◌≡◌, ap, refl, subst, sym}
use Prim.Native.Nat.{◌*◌, ◌+◌, ◌-◌, ◌<◌, ◌≤◌, suc, zero, ℕ}
use native.Mathlib.Nat.{le_of_suc-le-suc, not-suc-le-zero}
use native.Mathlib.Numerals.{add-one}
use native.Mathlib.Omega.{arith}
use lib.Dec.{eqb, leb}
use lib.ListN.{drop, drop_of_length-le, length, replicate, set, take}
use lib.Seq.{drop-cons, length-take-le, take_at}
use borrow.Author.Tests.{eq-eqb, le-leb, lt-leb, ne_eqb}
use Rattle.trace.proofs.TraceAgreement.{latched_law, touched_from}
use Rattle.trace.specs.Trace.{cleared, effect_dies, gate_touched, latched_touched, latched_touched_list, latched_untouched, one_if, touched_list, node_touched}
use Rattle.trace.specs.Trace.{output_untouched, pin_touched, pins_touched, site_touched, some_touched, untouched_value, untouched_values}
use Rattle.trace.specs.Inner.Tracing.{traced, tracing}
use Rattle.values.proofs.RangeLaws.{any_front}
use Rattle.values.proofs.ListLaws.{any_none, any_same, build-end, build-rest, build_store, Filled, filled_table, length-build}
use Rattle.gates.proofs.ValueLaws.{known-low, unknown_high}
use Rattle.circuit.specs.Fault.{StuckLines, held, lines_in, none_stuck}
use Rattle.circuit.proofs.FaultLaws.{held_free, held_is, held_low}
use Rattle.std.specs.Prelude.{None, Some}
use Rattle.circuit.specs.declared.fault.Circuit.{Circuit}
use Rattle.knowledge.specs.Inner.Slice.{known_in}
use Rattle.gates.specs.Kind.{gate, is_flip_flop, is_given}
use Rattle.simulator.proofs.PinLaws.{by-pin-at, length-by-pin}
use Rattle.values.specs.Lists.{any, at, build, every, table}
use Rattle.netlist.specs.Netlist.{Net, length_of, net_of, source_of}
use Rattle.gates.specs.Value.{is_unknown}

-- tests that agree below n
every_same : (f g : ℕ → Bool) (n : ℕ) → ((i : ℕ) → i < n → f i ≡ g i) → every f n ≡ every g n
unfolding every
every_same f g zero h = refl
every_same f g (suc n) h = let r = every_same f g n (λ i l. h i (omega arith)) in let q = h n (omega arith) in λ i. r i && q i

-- a held line is touched by its own value, any other as it is said
pub site_held : (u v otherwise h : ℕ) → held u ≡ Some h → one_if (not (eqb v h)) ≡ site_touched u v otherwise
site_held u v otherwise h e = let low = held_low u h e in rw (held_is u h e, known-low u low) refl

pub site_free : (u v otherwise : ℕ) → held u ≡ None → otherwise ≡ site_touched u v otherwise
site_free u v otherwise e = rw (unknown_high u (held_free u e)) refl

-- a line is touched where one of them is, whatever the order that they are asked in
some_listed : (ms : List ℕ) → any (λ k. not (eqb (at ms k) 0)) (length ms) ≡ some_touched ms
some_listed [] = any_none (λ k. not (eqb (at [] k) 0))
some_listed (zero ∷ ms) =
    any_front (λ k. not (eqb (at (zero ∷ ms) k) 0)) (length ms)
    ∙ ap (λ (b : Bool). not b || any (λ k. not (eqb (at ms k) 0)) (length ms)) (eq-eqb 0 0 refl)
    ∙ some_listed ms
some_listed (suc m ∷ ms) =
    let d : (suc m ≡ 0 → ⊥) = λ e. omega (arith, e) in
    any_front (λ k. not (eqb (at (suc m ∷ ms) k) 0)) (length ms)
    ∙ ap (λ (b : Bool). not b || any (λ k. not (eqb (at ms k) 0)) (length ms)) (ne_eqb (suc m) 0 d)

-- a line that is touched is enough
pub some_at : (ms : List ℕ) (k : ℕ) → k < length ms → (at ms k ≡ 0 → ⊥) → some_touched ms ≡ true
some_at [] k h d = absurd (not-suc-le-zero h)
some_at (zero ∷ ms) zero h d = absurd (d refl)
some_at (zero ∷ ms) (suc k) h d = some_at ms k (le_of_suc-le-suc h) d
some_at (suc m ∷ ms) k h d = refl

-- no line is left; and one line more in front that is not touched, where lines are counted down to 0
pub some_none : (ms : List ℕ) (j : ℕ) → j ≡ length ms → some_touched (drop j ms) ≡ false
some_none ms j e = let h : length ms ≤ j = omega arith in rw (drop_of_length-le ms h)

pub some_more : (ms : List ℕ) (j : ℕ) → 0 < j → j ≤ length ms → at ms (j - 1) ≡ 0 → some_touched (drop j ms) ≡ false → some_touched (drop (j - 1) ms) ≡ false
some_more ms j h l z e =
    let m : j - 1 < length ms = omega arith in
    let q : suc (j - 1) ≡ j = omega arith in
    rw (drop-cons ms (j - 1) 0 m, z) (subst (λ (i : ℕ). some_touched (drop i ms) ≡ false) (sym q) e)

-- a node's pins: whether one of them is touched; how many have a value, and which
module _ (bs : List ℕ) (D : StuckLines) (v ms : ℕ → ℕ) (n : ℕ) where
  pub some_pin : any (λ k. not (eqb (pin_touched (net_of bs) D v ms n k (source_of bs n k)) 0)) (length_of bs n) ≡ some_touched (pins_touched (net_of bs) D v ms n)
  some_pin =
      let f = pin_touched (net_of bs) D v ms n in
      any_same _ _ (length_of bs n) (λ k h. ap (λ (x : ℕ). not (eqb x 0)) (sym (by-pin-at bs f n k h)))
      ∙ ap (any (λ k. not (eqb (at (pins_touched (net_of bs) D v ms n) k) 0))) (sym (length-by-pin bs f n))
      ∙ some_listed (pins_touched (net_of bs) D v ms n)

  pub read_count : length (untouched_values (net_of bs) D v ms n) ≡ length_of bs n
  read_count = length-by-pin bs (λ k m. untouched_value (pin_touched (net_of bs) D v ms n k m) (v m)) n

  pub read_at : (k : ℕ) → k < length_of bs n
      → at (untouched_values (net_of bs) D v ms n) k ≡ untouched_value (pin_touched (net_of bs) D v ms n k (source_of bs n k)) (v (source_of bs n k))
  read_at = by-pin-at bs (λ k m. untouched_value (pin_touched (net_of bs) D v ms n k m) (v m)) n

pub ruleset read_laws = (read_count, read_at)

pub value-touched : (m v : ℕ) → (m ≡ 0 → ⊥) → 2 ≡ untouched_value m v
value-touched zero v d = absurd (d refl)
value-touched (suc m) v d = refl

pub touched-known : (v : ℕ) → v < 2 → 0 ≡ one_if (is_unknown v)
touched-known v h = sym (ap one_if (known-low v h))

leb-unknown : (v : ℕ) → leb 2 v ≡ is_unknown v
leb-unknown zero = refl
leb-unknown (suc zero) = refl
leb-unknown (suc (suc v)) = le-leb 2 (suc (suc v)) (omega arith)

pub untouched_not : (b : Bool) (m : ℕ) → one_if b ≡ m → not b ≡ eqb m 0
untouched_not true m e = rw (← e)
untouched_not false m e = rw (← e)

-- 0 says that the test fails
pub no_touch : (b : Bool) → one_if b ≡ 0 → b ≡ false
no_touch true e = absurd (omega arith)
no_touch false e = refl

pub no_touch_not : (b : Bool) → one_if (not b) ≡ 0 → b ≡ true
no_touch_not true e = refl
no_touch_not false e = absurd (omega arith)

module _ (net : Net) (D : StuckLines) (v ms : ℕ → ℕ) (n : ℕ) where
  by-pins : Bool → ℕ
  by-pins b = elim b [ true ↦ one_if (is_unknown (gate (net.kind n) (untouched_values net D v ms n))) | false ↦ 0 ]

  pub gate_untouched : some_touched (pins_touched net D v ms n) ≡ false → 0 ≡ gate_touched net D v ms n
  unfolding gate_touched by-pins
  gate_untouched e = sym (ap by-pins e)

  pub gate-touched : some_touched (pins_touched net D v ms n) ≡ true → one_if (is_unknown (gate (net.kind n) (untouched_values net D v ms n))) ≡ gate_touched net D v ms n
  unfolding gate_touched by-pins
  gate-touched e = sym (ap by-pins e)

  pub gate_by : (w : ℕ) → some_touched (pins_touched net D v ms n) ≡ true → w ≡ gate (net.kind n) (untouched_values net D v ms n) → one_if (leb 2 w) ≡ gate_touched net D v ms n
  gate_by w e f = ap one_if (leb-unknown w ∙ ap is_unknown f) ∙ gate-touched e

  -- whether a node is touched: an input, any other node but a flip-flop
  module _ (latched : ℕ → ℕ) where
    pub touched-input : is_given (net.kind n) ≡ true → is_flip_flop (net.kind n) ≡ false → site_touched (D.node n) (v n) 0 ≡ node_touched net D v latched ms n
    unfolding node_touched
    touched-input e f = ap (site_touched (D.node n) (v n)) (sym (λ i. cond (e i) (cond (f i) (latched n) 0) (gate_touched net D v ms n)))

    pub touched-gate : is_given (net.kind n) ≡ false → site_touched (D.node n) (v n) (gate_touched net D v ms n) ≡ node_touched net D v latched ms n
    unfolding node_touched
    touched-gate e = ap (site_touched (D.node n) (v n)) (sym (λ i. cond (e i) (cond (is_flip_flop (net.kind n)) (latched n) 0) (gate_touched net D v ms n)))

  -- what was latched counts at the node's own place alone
  pub touched-latched : (latched other : ℕ → ℕ) → latched n ≡ other n → node_touched net D v latched ms n ≡ node_touched net D v other ms n
  unfolding node_touched
  touched-latched latched other e = ap (λ (x : ℕ). site_touched (D.node n) (v n) (cond (is_given (net.kind n)) (cond (is_flip_flop (net.kind n)) x 0) (gate_touched net D v ms n))) e

  pub not_latched : (net.kind n ≡ 2 → ⊥) → 0 ≡ latched_touched net D v ms n
  unfolding latched_touched
  not_latched d = rw (ne_eqb (net.kind n) 2 d)

  pub latched_by : (b : Bool) → net.kind n ≡ 2 → b ≡ some_touched (pins_touched net D v ms n) → one_if b ≡ latched_touched net D v ms n
  unfolding latched_touched
  latched_by b e f = rw e (ap one_if f)

module _ (net : Net) (D : StuckLines) (v : ℕ → ℕ) where
  pub length-touched : (l : ℕ → ℕ) → length (touched_list net D v l) ≡ net.size
  unfolding touched_list
  length-touched l = length-build (touched_from net D v l) net.size

  -- A loop that writes what is touched over what was latched, by rising node, e being the slice when node i is reached: it holds the list
  -- made so far, and d from i on.
  pub touched_turn : (d e : List ℕ) (i x : ℕ) → i < length d → e ≡ build (touched_from net D v (at d)) i ++ drop i d → x ≡ node_touched net D v (at e) (at (take i e)) i
      → set e i x ≡ build (touched_from net D v (at d)) (i + 1) ++ drop (i + 1) d
  touched_turn d e i x h p q =
      let f = touched_from net D v (at d) in
      let front : take i e ≡ build f i = ap (take i) p ∙ take_at (build f i) (drop i d) i (length-build f i) in
      let here : at e i ≡ at d i = ap (λ (l : List ℕ). at l i) p ∙ build-rest f d i h in
      let made : x ≡ f (build f i) i =
      q ∙ ap (λ (l : List ℕ). node_touched net D v (at e) (at l) i) front ∙ touched-latched net D v (at (build f i)) i (at e) (at d) here in
      (λ k. set (p k) i (made k)) ∙ build_store f d i h

  pub touched_end : (d : List ℕ) (i : ℕ) → i ≡ net.size → net.size ≡ length d → build (touched_from net D v (at d)) i ++ drop i d ≡ touched_list net D v (at d)
  unfolding touched_list
  touched_end d i e h = build-end (touched_from net D v (at d)) d i net.size e (sym h)

  -- a slice that a loop fills with what is latched
  pub latched_filled : (ms : ℕ → ℕ) (n : ℕ) (l : List ℕ) → n ≡ net.size → n ≤ length l → Filled (latched_touched net D v ms) 0 n l → take n l ≡ latched_touched_list net D v ms
  unfolding latched_touched_list
  latched_filled ms n l e h p = filled_table (latched_touched net D v ms) 0 n l (omega (arith, h)) p ∙ ap (table (latched_touched net D v ms)) e

  -- no pin of a flip-flop is touched, tested node by node
  pub latched_every : (ms : ℕ → ℕ) → every (λ n. eqb (latched_touched net D v ms n) 0) net.size ≡ every (latched_untouched (latched_touched_list net D v ms)) net.size
  latched_every ms = every_same _ _ net.size (λ n h. ap (λ (x : ℕ). eqb x 0) (sym (latched_law net D v ms n h)))

-- one frame of the trace, and the last one
module _ (net : Net) (kn : ℕ → ℕ → ℕ) (t : ℕ) (D : StuckLines) (l : List ℕ) where
  abbrev pub frame_touched : List ℕ
  frame_touched = touched_list net D (λ n. kn n t) (at l)

  abbrev pub next_touched : List ℕ
  next_touched = latched_touched_list net D (λ n. kn n t) (at frame_touched)

  pub dies-on : (r : ℕ) → 0 < r → every (output_untouched net frame_touched) net.size ≡ true → effect_dies net kn r t D l ≡ effect_dies net kn (r - 1) (t + 1) none_stuck next_touched
  unfolding effect_dies
  dies-on zero h e = absurd (omega arith)
  dies-on (suc r) h e =
      let q : r ≡ suc r - 1 = omega arith in
      ap (λ (b : Bool). b && effect_dies net kn r (suc t) none_stuck next_touched) e ∙ (λ i. effect_dies net kn (q i) (sym (add-one t) i) none_stuck next_touched)

  pub dies-last : (a b : Bool) → a ≡ every (output_untouched net frame_touched) net.size → b ≡ every (latched_untouched next_touched) net.size → (a && b) ≡ effect_dies net kn 0 t D l
  unfolding effect_dies
  dies-last a b e f = λ i. e i && f i

-- a touched output ends the trace, whatever frames are behind it
module _ (net : Net) (kn : ℕ → ℕ → ℕ) (r t : ℕ) (D : StuckLines) (l : List ℕ) where
  pub dies-open : every (output_untouched net (frame_touched net kn t D l)) net.size ≡ false → effect_dies net kn r t D l ≡ false
  unfolding effect_dies
  dies-open e = go r
    where
      go : (r : ℕ) → effect_dies net kn r t D l ≡ false
      go zero = ap (λ (b : Bool). b && every (latched_untouched (next_touched net kn t D l)) net.size) e
      go (suc r) = ap (λ (b : Bool). b && effect_dies net kn r (suc t) none_stuck (next_touched net kn t D l)) e

-- The same where l has the touched flip-flops, as the code has the frame: with its own netlist, circuit and values. after is what is touched in
-- it, and b says that no output is.
module _ {bs bytes : List ℕ} {good circuit : Circuit} {v : ℕ → ℕ} {after : List ℕ} {b : Bool} (known : List ℕ) (r t : ℕ) (l : List ℕ) (e : bytes ≡ bs) (d : circuit ≡ good)
    (f : v ≡ (λ n. known_in known (net_of bs).size n t)) (q : after ≡ touched_list (net_of bytes) (lines_in circuit) v (at l))
    (p : b ≡ every (output_untouched (net_of bytes) after) (net_of bytes).size) where
  after_is : after ≡ frame_touched (net_of bs) (known_in known (net_of bs).size) t (lines_in good) l
  after_is = q ∙ (λ i. touched_list (net_of (e i)) (lines_in (d i)) (f i) (at l))

  outputs_are : every (output_untouched (net_of bs) (frame_touched (net_of bs) (known_in known (net_of bs).size) t (lines_in good) l)) (net_of bs).size ≡ b
  outputs_are = sym (p ∙ (λ i. every (output_untouched (net_of (e i)) (after_is i)) (net_of (e i)).size))

  next_is : latched_touched_list (net_of bytes) (lines_in circuit) v (at after) ≡ next_touched (net_of bs) (known_in known (net_of bs).size) t (lines_in good) l
  next_is = λ i. latched_touched_list (net_of (e i)) (lines_in (d i)) (f i) (at (after_is i))

  -- a touched output ends the trace
  pub frame_open : b ≡ false → false ≡ effect_dies (net_of bs) (known_in known (net_of bs).size) r t (lines_in good) l
  frame_open z = sym (dies-open (net_of bs) (known_in known (net_of bs).size) r t (lines_in good) l (outputs_are ∙ z))

  -- without one it goes on from what is latched
  pub frame_on : (rest : ℕ) (next : List ℕ) → r ≡ suc rest → b ≡ true → next ≡ latched_touched_list (net_of bytes) (lines_in circuit) v (at after)
      → effect_dies (net_of bs) (known_in known (net_of bs).size) r t (lines_in good) l ≡ effect_dies (net_of bs) (known_in known (net_of bs).size) rest (t + 1) none_stuck next
  frame_on rest next h z n =
      let q : r - 1 ≡ rest = omega (arith, h) in
      dies-on (net_of bs) (known_in known (net_of bs).size) t (lines_in good) l r (omega (arith, h)) (outputs_are ∙ z)
      ∙ (λ i. effect_dies (net_of bs) (known_in known (net_of bs).size) (q i) (t + 1) none_stuck (sym (n ∙ next_is) i))

  -- in the last frame no flip-flop's pin may be touched
  pub frame_last : (pins : Bool) → r ≡ 0 → b ≡ true → pins ≡ every (latched_untouched (latched_touched_list (net_of bytes) (lines_in circuit) v (at after))) (net_of bytes).size
      → pins ≡ effect_dies (net_of bs) (known_in known (net_of bs).size) r t (lines_in good) l
  frame_last pins h z n =
      let left = n ∙ (λ i. every (latched_untouched (next_is i)) (net_of (e i)).size) in
      dies-last (net_of bs) (known_in known (net_of bs).size) t (lines_in good) l true pins (sym (outputs_are ∙ z)) left
      ∙ (λ i. effect_dies (net_of bs) (known_in known (net_of bs).size) (sym h i) t (lines_in good) l)

-- the trace reads which flip-flops are touched place by place, so a slice of zeros is as good as none
pub dies-latched : (net : Net) (kn : ℕ → ℕ → ℕ) (r t : ℕ) (D : StuckLines) (l m : List ℕ) → at l ≡ at m → effect_dies net kn r t D l ≡ effect_dies net kn r t D m
unfolding effect_dies
dies-latched net kn zero t D l m e = λ i.
    every (output_untouched net (touched_list net D (λ n. kn n t) (e i))) net.size
    && every (latched_untouched (latched_touched_list net D (λ n. kn n t) (at (touched_list net D (λ n. kn n t) (e i))))) net.size
dies-latched net kn (suc r) t D l m e = λ i.
    every (output_untouched net (touched_list net D (λ n. kn n t) (e i))) net.size
    && effect_dies net kn r (suc t) none_stuck (latched_touched_list net D (λ n. kn n t) (at (touched_list net D (λ n. kn n t) (e i))))

zeros_taken : (n m j : ℕ) → at (take n (replicate m 0)) j ≡ 0
zeros_taken zero m j = refl
zeros_taken (suc n) zero j = refl
zeros_taken (suc n) (suc m) zero = refl
zeros_taken (suc n) (suc m) (suc j) = zeros_taken n m j

pub none-touched : (n m : ℕ) → at (take n (replicate m 0)) ≡ at []
none-touched n m = λ i j. zeros_taken n m j i

pub dies_cleared : (net : Net) (kn : ℕ → ℕ → ℕ) (r t : ℕ) (D : StuckLines) (l : List ℕ) (n m : ℕ) → l ≡ replicate m 0 → effect_dies net kn r t D (take n l) ≡ effect_dies net kn r t D []
dies_cleared net kn r t D l n m e = ap (λ (x : List ℕ). effect_dies net kn r t D (take n x)) e ∙ dies-latched net kn r t D (take n (replicate m 0)) [] (none-touched n m)

-- the trace of a window, where the lent slice is too short, and where it is long enough
module _ (net : Net) (f : StuckLines) (c F : ℕ) (kn : ℕ → ℕ → ℕ) (touched : List ℕ) where
  pub tracing_short : (n : ℕ) → n ≡ net.size → length touched < n * (F + 1) → traced false touched ≡ tracing net f c F kn touched
  unfolding tracing
  tracing_short n e h = let l : length touched < net.size * (F + 1) = rw (← e) h in rw (lt-leb (net.size * (F + 1)) (length touched) l)

  pub tracing_long : net.size * (F + 1) ≤ length touched → traced (effect_dies net kn F c f []) (cleared (net.size * (F + 1)) touched) ≡ tracing net f c F kn touched
  unfolding tracing
  tracing_long h = rw (le-leb (net.size * (F + 1)) (length touched) h)

  -- the same, as the code has it: the answer, and the cleared bytes
  pub tracing_done : (n : ℕ) (dies : Bool) (after : List ℕ) → n ≡ net.size → n * (F + 1) ≤ length touched → dies ≡ effect_dies net kn F c f []
      → after ≡ replicate (length (take (n * (F + 1)) touched)) 0 → traced dies (after ++ drop (n * (F + 1)) touched) ≡ tracing net f c F kn touched
  tracing_done n dies after e h d z =
      let k : length (take (n * (F + 1)) touched) ≡ net.size * (F + 1) = length-take-le (n * (F + 1)) touched h ∙ ap (λ (x : ℕ). x * (F + 1)) e in
      (λ i. traced (d i) ((z ∙ ap (λ (x : ℕ). replicate x 0) k) i ++ drop (e i * (F + 1)) touched)) ∙ tracing_long (rw (← e) h)

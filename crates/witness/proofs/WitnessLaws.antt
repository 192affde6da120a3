-- Laws of clocks in lent slices: in a sound circuit, and slices with a place for each node, they are the circuit's clocks, so that a
-- redundant fault keeps the outputs of the faulty and the good circuit alike.
use mathlib.Core.Bool.{Bool, ◌&&◌, cond, not, true}
use mathlib.Core.List.{List}
use mathlib.Core.Path.{◌∙◌, ◌≡◌, ap, refl, subst, sym}
use Prim.Native.Nat.{◌<◌, suc, ℕ}
use native.Mathlib.Omega.{arith}
use lib.Dec.{eqb}
use lib.ListN.{length}
use lib.Seq.{sets}
use borrow.Author.Tests.{eqb-false, not-true}
use Rattle.values.proofs.BoolLaws.{and_left, and_right}
use Rattle.values.proofs.ListLaws.{any_found, build-end, build-rest, get_or-build, length-build, rewritten-build}
use Rattle.values.proofs.SetsLaws.{sets-whole}
use Rattle.gates.specs.Kind.{is_flip_flop, is_output}
use Rattle.values.specs.Lists.{any, at, table}
use Rattle.simulator.proofs.ClockLaws.{Ordered, latched_into_lem, seen_list_agree, settled_seen}
use Rattle.simulator.specs.Inner.Places.{latched_into, settled}
use Rattle.simulator.specs.ClockLists.{InputBits, LatchedBits, clock_start, latched_after, seen_after}
use Rattle.circuit.specs.Fault.{StuckLines, none_stuck}
use Rattle.netlist.specs.Netlist.{Net}
use Rattle.witness.proofs.AlikeLaws.{alike_next, alike_now, from_next}
use Rattle.witness.specs.Inner.Alike.{Alike, AlikeFrom, SameOutputs}
use Rattle.witness.specs.Inner.Clocks.{Compared, Held, both_step, clocked, compared, holding, output_differs, started}

module _ (net : Net) (s : StuckLines) where
  -- a clock by its three parts, for n nodes: u is what it is given, v what is seen, w what is latched
  pub clocked-by : (n : ℕ) (x l u v w : List ℕ) → n ≡ net.size → u ≡ started net l n x → v ≡ settled net s n u → w ≡ latched_into net s (at v) n l
      → holding v w ≡ clocked net s (holding x l)
  unfolding clocked
  clocked-by n x l u v w e a b d =
      let p : u ≡ started net l net.size x = a ∙ ap (λ (k : ℕ). started net l k x) e in
      let q : v ≡ settled net s net.size (started net l net.size x) = b ∙ (λ i. settled net s (e i) (p i)) in
      let r = d ∙ (λ i. latched_into net s (at (q i)) (e i) l) in
      λ i. holding (q i) (r i)

  pub ruleset clocks_by = (clocked-by)

  -- a clock of both circuits by its parts: z are the good circuit's inputs, copied from the faulty one's
  pub both_by : (f g a b : Held) (z : List ℕ) (r : Bool) → z ≡ sets g.values 0 f.values → a ≡ clocked net s f
      → b ≡ clocked net none_stuck (holding z g.latched) → r ≡ any (output_differs net a.values b.values) net.size
      → compared r a b ≡ both_step net s f g
  unfolding both_step
  both_by f g a b z r h p q d =
      let t = q ∙ ap (λ (x : List ℕ). clocked net none_stuck (holding x g.latched)) h in
      let e = d ∙ (λ i. any (output_differs net (p i).values (t i).values) net.size) in
      λ i. compared (e i) (p i) (t i)

-- A clock in slices with a place for each node.
module _ (net : Net) (x l : List ℕ) (h : length x ≡ net.size) where
  -- the slice holds what the clock step is given
  started-table : started net l net.size x ≡ table (clock_start net x l) net.size
  unfolding started clock_start
  started-table =
      let f = clock_start net x l in
      rewritten-build (λ e. clock_start net e l) (λ _. f) x net.size (omega arith)
      (λ i p. ap (λ (v : ℕ). cond (is_flip_flop (net.kind i)) (at l i) v) (build-rest (λ _. f) x i (omega arith)))
      ∙ build-end (λ _. f) x net.size net.size refl h

  module _ (s : StuckLines) (o : Ordered net) where
    -- settled, it holds the seen values
    clock-settled : settled net s net.size (started net l net.size x) ≡ seen_after net s x l
    unfolding seen_after
    clock-settled =
        let f = clock_start net x l in
        ap (settled net s net.size) started-table
        ∙ settled_seen net s (table f net.size) o (length-build (λ _. f) net.size)
        ∙ seen_list_agree net s (at (table f net.size)) f (λ n p _. get_or-build (λ _. f) 0 net.size p)

    -- and what is latched from these is what the clock latches
    clock-latched : length l ≡ net.size → latched_into net s (at (seen_after net s x l)) net.size l ≡ latched_after net s x l
    unfolding latched_after
    clock-latched k = latched_into_lem net s (at (seen_after net s x l)) l k

    pub clocked-sound : length l ≡ net.size → clocked net s (holding x l) ≡ holding (seen_after net s x l) (latched_after net s x l)
    unfolding clocked
    clocked-sound k =
        (λ i. holding (clock-settled i) (latched_into net s (at (clock-settled i)) net.size l))
        ∙ ap (holding (seen_after net s x l)) (clock-latched k)

    -- The faulty circuit takes a clock: one less is left.
    pub clock_from : length l ≡ net.size → InputBits net x → (c : ℕ) → AlikeFrom net s (suc c) l
        → (a : Held) → a ≡ clocked net s (holding x l) → AlikeFrom net s c a.latched
    clock_from k p c q a e =
        subst (λ (m : List ℕ). AlikeFrom net s c m) (sym (ap (λ (b : Held). b.latched) (e ∙ clocked-sound k))) (from_next net s c x l p q)

-- an output at which two circuits differ: they are not the same there
output_apart : (k v w : ℕ) → (is_output k && not (eqb v w)) ≡ true → (is_output k ≡ true → v ≡ w) → ⊥
output_apart k v w e h =
    eqb-false v w (not-true (eqb v w) (and_right (is_output k) (not (eqb v w)) e)) (h (and_left (is_output k) (not (eqb v w)) e))

-- where all outputs are the same none differs
same-differ : (net : Net) (v w : List ℕ) → SameOutputs net v w → any (output_differs net v w) net.size ≡ true → ⊥
unfolding SameOutputs output_differs
same-differ net v w h e =
    let a = any_found (output_differs net v w) net.size e in
    output_apart (net.kind a.0) (at v a.0) (at w a.0) a.2 (h a.0 a.1)

-- Both circuits take a clock with the same inputs, in such slices: while they are alike no output differs, and they go on alike.
module _ (net : Net) (s : StuckLines) (o : Ordered net) (x l y m : List ℕ)
    (hx : length x ≡ net.size) (hl : length l ≡ net.size) (hy : length y ≡ net.size) (hm : length m ≡ net.size) where
  pub both-sound : both_step net s (holding x l) (holding y m)
      ≡ compared (any (output_differs net (seen_after net s x l) (seen_after net none_stuck x m)) net.size)
      (holding (seen_after net s x l) (latched_after net s x l)) (holding (seen_after net none_stuck x m) (latched_after net none_stuck x m))
  unfolding both_step
  both-sound =
      let f = clocked-sound net x l hx s o hl in
      let g = ap (λ (z : List ℕ). clocked net none_stuck (holding z m)) (sets-whole x y (hy ∙ sym hx)) ∙ clocked-sound net x m hx none_stuck o hm in
      λ i. compared (any (output_differs net (f i).values (g i).values) net.size) (f i) (g i)

  pub both_alike : InputBits net x → Alike net s l m → (r : Bool) (a b : Held) → compared r a b ≡ both_step net s (holding x l) (holding y m)
      → (r ≡ true → ⊥) × Alike net s a.latched b.latched
  both_alike p h r a b e =
      let q = e ∙ both-sound in (
        λ t. same-differ net (seen_after net s x l) (seen_after net none_stuck x m) (alike_now net s x l m p h) (sym (ap (λ (d : Compared). d.differs) q) ∙ t),
        subst (λ (k : List ℕ). Alike net s k b.latched) (sym (ap (λ (d : Compared). d.faulty.latched) q))
            (subst (λ (k : List ℕ). Alike net s (latched_after net s x l) k) (sym (ap (λ (d : Compared). d.good.latched) q)) (alike_next net s x l m p h)),
      )

-- values that are drawn are a clock's inputs, and are latched values
module _ (net : Net) (n : ℕ) (e : n ≡ net.size) (x : List ℕ) (h : (k : ℕ) → k < n → at x k < 2) where
  pub drawn_inputs : InputBits net x
  unfolding InputBits
  drawn_inputs k p _ = h k (omega arith)

  pub drawn_latched : LatchedBits net x
  unfolding LatchedBits
  drawn_latched k p _ = h k (omega arith)

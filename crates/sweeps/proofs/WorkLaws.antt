-- The sweeps on lent bytes: one line of a relation, and how many steps there can be.
use mathlib.Core.Bool.{Bool, ◌&&◌, ◌||◌, cond, false, not, true, true≢false}
use mathlib.Core.List.{List, [], ◌∷◌}
use mathlib.Core.Path.{◌∙◌, ◌≡◌, ap, refl, subst, sym}
use Prim.Native.Nat.{◌*◌, ◌+◌, ◌<◌, ◌≤◌, suc, zero, ℕ}
use native.Mathlib.Nat.{le_of_suc-le-suc, not-suc-le-zero}
use native.Mathlib.Omega.{arith}
use lib.Dec.{eqb}
use lib.ListN.{length, set}
use lib.Seq.{sets}
use borrow.Author.Tests.{eq-eqb, ne_eqb}
use Rattle.gates.proofs.ValueLaws.{differ_unknown, known_is, known-low, unknown_high}
use Rattle.simulator.specs.Clock.{pin_values}
use Rattle.circuit.specs.Fault.{StuckLines}
use Rattle.gates.specs.Kind.{controlling, gate, rule_of}
use Rattle.values.specs.Lists.{at}
use Rattle.netlist.specs.Netlist.{Net}
use Rattle.gates.specs.Value.{is_unknown, neg}
use Rattle.trace.specs.Trace.{one_if}
use Rattle.knowledge.specs.Inner.Slice.{Entered, enter_at, entered, known_in}
use Rattle.knowledge.specs.Window.{conclusion, in_force, pin_conclusion, pin_frame}
use Rattle.certificate.specs.declared.step.Step.{Step}
use Rattle.sweeps.proofs.CountingLaws.{unknowns-set}
use Rattle.sweeps.proofs.RisingLaws.{rising-first, rising_keeps, rising_stops}
use Rattle.sweeps.proofs.StillLaws.{line_is, said, tried}
use Rattle.sweeps.specs.Sweeps.{rising, says_nothing, sweep, sweep_frame, sweeps, try_line, use_relation}
use Rattle.sweeps.specs.Inner.Work.{Work, in_bytes, take_in, tally, unknowns, work}
use Rattle.certificate.specs.Written.{step_bytes}

-- ---- one line

module _ (net : Net) (S : ℕ → StuckLines) (n t i : ℕ) (w : Work) where
  abbrev pub made : Step
  made = conclusion net S (known_in w.known net.size) n t i

  -- after a contradiction nothing is done
  pub line-closed : w.closed ≡ true → try_line (in_bytes net.size) net S n t i w ≡ w
  line-closed e = line_is (in_bytes net.size) net S n t i w true (ap (λ (b : Bool). b || said (in_bytes net.size) net S n t i w) e)

  module _ (r : Step) (is : r ≡ made) (unclosed : w.closed ≡ false) where
    test : Step → Bool
    test s = is_unknown s.value || eqb (at w.known (s.frame * net.size + s.node)) s.value

    by-test : (b : Bool) → test r ≡ b → try_line (in_bytes net.size) net S n t i w ≡ tried (in_bytes net.size) net S n t i w b
    unfolding test says_nothing
    by-test b e = line_is (in_bytes net.size) net S n t i w b ((λ j. unclosed j || test (sym is j)) ∙ e)

    -- nothing is concluded
    pub line-silent : 2 ≤ r.value → try_line (in_bytes net.size) net S n t i w ≡ w
    unfolding test
    line-silent h = by-test true (ap (λ (b : Bool). b || eqb (at w.known (r.frame * net.size + r.node)) r.value) (unknown_high r.value h))

    module _ (low : r.value < 2) (p : ℕ) (place : p ≡ r.frame * net.size + r.node) where
      valued : (b : Bool) → eqb (at w.known (r.frame * net.size + r.node)) r.value ≡ b → test r ≡ b
      unfolding test
      valued b e = (λ j. known-low r.value low j || e j)

      -- what is concluded is known already
      pub line-old : at w.known p ≡ r.value → try_line (in_bytes net.size) net S n t i w ≡ w
      line-old e = by-test true (valued true (eq-eqb (at w.known (r.frame * net.size + r.node)) r.value (ap (at w.known) (sym place) ∙ e)))

      -- a step
      pub line-new : (at w.known p ≡ r.value → ⊥) → (known run : List ℕ) (closed : Bool) → entered closed known ≡ enter_at w.known p r.value
          → run ≡ sets w.run (7 * w.steps) (step_bytes r)
          → work known run (w.steps + 1) closed ≡ try_line (in_bytes net.size) net S n t i w
      unfolding take_in
      line-new d known run closed e f =
          let q = e ∙ (λ j. enter_at w.known (place j) r.value) in
          (λ j. work (q j).bytes (f j) (w.steps + 1) (q j).closed)
          ∙ ap (take_in net.size w) is
          ∙ sym (by-test false (valued false (ne_eqb (at w.known (r.frame * net.size + r.node)) r.value (λ z. d (ap (at w.known) place ∙ z)))))

-- ---- how many steps there can be

-- an unknown value's place lies within the slice
unknown_inside : (l : List ℕ) (i : ℕ) → is_unknown (at l i) ≡ true → i < length l
unknown_inside [] i e = absurd (true≢false (sym e))
unknown_inside (x ∷ xs) zero e = omega arith
unknown_inside (x ∷ xs) (suc i) e = let h = unknown_inside xs i e in omega arith

pub unknowns-most : (l : List ℕ) → unknowns l ≤ length l
unfolding unknowns
unknowns-most [] = omega arith
unknowns-most (x ∷ xs) = let r = unknowns-most xs in go (is_unknown x) r
  where
    go : (b : Bool) → unknowns xs ≤ length xs → one_if b + unknowns xs ≤ suc (length xs)
    go true r = omega arith
    go false r = omega arith

-- where one is known, at least one is not unknown
pub unknowns-fewer : (l : List ℕ) (i : ℕ) → i < length l → at l i < 2 → unknowns l < length l
unfolding unknowns
unknowns-fewer [] i h k = absurd (not-suc-le-zero h)
unknowns-fewer (x ∷ xs) zero h k = let a : one_if (is_unknown x) ≡ 0 = ap one_if (known-low x k) in let r = unknowns-most xs in omega arith
unknowns-fewer (x ∷ xs) (suc i) h k = let r = unknowns-fewer xs i (le_of_suc-le-suc h) k in go (is_unknown x) r
  where
    go : (b : Bool) → unknowns xs < length xs → one_if b + unknowns xs < suc (length xs)
    go true r = omega arith
    go false r = omega arith

-- before the first step, in an open branch
pub open_tally : (known run : List ℕ) → tally (work known run 0 false) ≤ length known + 1
unfolding tally
open_tally known run = omega (arith, unknowns-most known)

pub steps-within : (w : Work) → w.steps ≤ tally w
unfolding tally
steps-within w = omega arith

pub steps-below : (w : Work) → w.closed ≡ false → w.steps < tally w
unfolding tally
steps-below w e = let a : one_if (not w.closed) ≡ 1 = ap (λ (b : Bool). one_if (not b)) e in omega arith

-- a step that is taken uses up an unknown value, or the branch being open
take-tally : (N : ℕ) (w : Work) (s : Step) → w.closed ≡ false → s.value < 2 → tally (take_in N w s) ≡ tally w
unfolding tally take_in
take-tally N w s e h = go (is_unknown (at w.known (s.frame * N + s.node))) refl
  where
    was : w.steps + unknowns w.known + one_if (not w.closed) ≡ w.steps + unknowns w.known + 1
    was = ap (λ (b : Bool). w.steps + unknowns w.known + one_if (not b)) e

    then : Bool → Entered
    then q = cond q (entered false (set w.known (s.frame * N + s.node) s.value)) (entered true w.known)

    go : (q : Bool) → is_unknown (at w.known (s.frame * N + s.node)) ≡ q
        → w.steps + 1 + unknowns (then q).bytes + one_if (not (then q).closed) ≡ w.steps + unknowns w.known + one_if (not w.closed)
    go true q = let r = unknowns-set w.known (s.frame * N + s.node) s.value 0 (unknown_inside w.known (s.frame * N + s.node) q) q h in omega (arith, r, was)
    go false q = omega (arith, was)

module _ (net : Net) (S : ℕ → StuckLines) where
  pub line-tally : (n t i : ℕ) (w : Work) → tally (try_line (in_bytes net.size) net S n t i w) ≡ tally w
  unfolding says_nothing
  line-tally n t i w = closed_or w.closed refl
    where
      s : Step
      s = made net S n t i w

      old_or : w.closed ≡ false → is_unknown s.value ≡ false → (b : Bool) → eqb (at w.known (s.frame * net.size + s.node)) s.value ≡ b
          → tally (tried (in_bytes net.size) net S n t i w b) ≡ tally w
      old_or c u true e = refl
      old_or c u false e = take-tally net.size w s c (known_is s.value u)

      known_or : w.closed ≡ false → (b : Bool) → is_unknown s.value ≡ b
          → tally (tried (in_bytes net.size) net S n t i w (b || eqb (at w.known (s.frame * net.size + s.node)) s.value)) ≡ tally w
      known_or c true u = refl
      known_or c false u = old_or c u (eqb (at w.known (s.frame * net.size + s.node)) s.value) refl

      closed_or : (b : Bool) → w.closed ≡ b → tally (try_line (in_bytes net.size) net S n t i w) ≡ tally w
      closed_or true c = ap tally (line-closed net S n t i w c)
      closed_or false c =
          ap tally (line_is (in_bytes net.size) net S n t i w (is_unknown s.value || eqb (at w.known (s.frame * net.size + s.node)) s.value)
          (ap (λ (b : Bool). b || (is_unknown s.value || eqb (at w.known (s.frame * net.size + s.node)) s.value)) c))
          ∙ known_or c (is_unknown s.value) refl

  pub lines_tally : (n t m : ℕ) (w : Work) → tally (rising (try_line (in_bytes net.size) net S n t) m w) ≡ tally w
  lines_tally n t m w = rising_keeps (try_line (in_bytes net.size) net S n t) (λ (x : Work). tally x ≡ tally w) m (λ i _ x e. line-tally n t i x ∙ e) w refl

  pub pins-tally : (n t m : ℕ) (w : Work) → tally (rising (λ (i : ℕ). try_line (in_bytes net.size) net S n t (suc i)) m w) ≡ tally w
  pins-tally n t m w = rising_keeps (λ (i : ℕ). try_line (in_bytes net.size) net S n t (suc i)) (λ (x : Work). tally x ≡ tally w) m (λ i _ x e. line-tally n t (suc i) x ∙ e) w refl

  -- the relation is used where it is in force: the output's line, then those of the pins
  pub relation_idle : (n t : ℕ) (w : Work) → in_force net S n t ≡ false → use_relation (in_bytes net.size) net S t n w ≡ w
  unfolding use_relation
  relation_idle n t w e = ap (λ (b : Bool). elim b [ true ↦ rising (try_line (in_bytes net.size) net S n t) (suc (length (net.pins n))) w | false ↦ w ]) e

  pub relation-used : (n t : ℕ) (w : Work) → in_force net S n t ≡ true
      → use_relation (in_bytes net.size) net S t n w ≡ rising (try_line (in_bytes net.size) net S n t) (suc (length (net.pins n))) w
  unfolding use_relation
  relation-used n t w e = ap (λ (b : Bool). elim b [ true ↦ rising (try_line (in_bytes net.size) net S n t) (suc (length (net.pins n))) w | false ↦ w ]) e

  pub relation-pins : (n t m : ℕ) (w : Work) → in_force net S n t ≡ true → m ≡ length (net.pins n)
      → rising (λ (i : ℕ). try_line (in_bytes net.size) net S n t (suc i)) m (try_line (in_bytes net.size) net S n t 0 w) ≡ use_relation (in_bytes net.size) net S t n w
  relation-pins n t m w e l =
      sym (rising-first (try_line (in_bytes net.size) net S n t) m w) ∙ ap (λ (k : ℕ). rising (try_line (in_bytes net.size) net S n t) (suc k) w) l ∙ sym (relation-used n t w e)

  pub relation-tally : (t n : ℕ) (w : Work) → tally (use_relation (in_bytes net.size) net S t n w) ≡ tally w
  unfolding use_relation
  relation-tally t n w = go (in_force net S n t)
    where
      go : (b : Bool) → tally (elim b [ true ↦ rising (try_line (in_bytes net.size) net S n t) (suc (length (net.pins n))) w | false ↦ w ]) ≡ tally w
      go true = lines_tally n t (suc (length (net.pins n))) w
      go false = refl

  pub relations_tally : (t m : ℕ) (w : Work) → tally (rising (use_relation (in_bytes net.size) net S t) m w) ≡ tally w
  relations_tally t m w = rising_keeps (use_relation (in_bytes net.size) net S t) (λ (x : Work). tally x ≡ tally w) m (λ i _ x e. relation-tally t i x ∙ e) w refl

  pub frame-tally : (t : ℕ) (w : Work) → tally (sweep_frame (in_bytes net.size) net S t w) ≡ tally w
  unfolding sweep_frame
  frame-tally t w = relations_tally t net.size w

  pub frames-tally : (m : ℕ) (w : Work) → tally (rising (sweep_frame (in_bytes net.size) net S) m w) ≡ tally w
  frames-tally m w = rising_keeps (sweep_frame (in_bytes net.size) net S) (λ (x : Work). tally x ≡ tally w) m (λ i _ x e. frame-tally i x ∙ e) w refl

  pub sweep-tally : (W : ℕ) (w : Work) → tally (sweep (in_bytes net.size) net S W w) ≡ tally w
  unfolding sweep
  sweep-tally W w = frames-tally W w

  pub sweeps-tally : (W m : ℕ) (w : Work) → tally (sweeps (in_bytes net.size) net S W m w) ≡ tally w
  unfolding sweeps
  sweeps-tally W zero w = refl
  sweeps-tally W (suc m) w =
      let b = sweep (in_bytes net.size) net S W w in
      go (b.closed || eqb b.steps w.steps) (sweeps-tally W m b ∙ sweep-tally W w)
    where
      go : (q : Bool) → tally (sweeps (in_bytes net.size) net S W m (sweep (in_bytes net.size) net S W w)) ≡ tally w
          → tally (elim q [ true ↦ sweep (in_bytes net.size) net S W w | false ↦ sweeps (in_bytes net.size) net S W m (sweep (in_bytes net.size) net S W w) ]) ≡ tally w
      go true e = sweep-tally W w
      go false e = e

  -- ---- a closed branch stays as it is

  pub lines_closed : (n t m : ℕ) (w : Work) → w.closed ≡ true → rising (try_line (in_bytes net.size) net S n t) m w ≡ w
  unfolding rising
  lines_closed n t m w c = rising_stops (try_line (in_bytes net.size) net S n t) 0 m w (omega arith) (λ j _. line-closed net S n t j w c)

  pub relation-closed : (t n : ℕ) (w : Work) → w.closed ≡ true → use_relation (in_bytes net.size) net S t n w ≡ w
  unfolding use_relation
  relation-closed t n w c = go (in_force net S n t)
    where
      go : (b : Bool) → ◌≡◌ {A = Work} (elim b [ true ↦ rising (try_line (in_bytes net.size) net S n t) (suc (length (net.pins n))) w | false ↦ w ]) w
      go true = lines_closed n t (suc (length (net.pins n))) w c
      go false = refl

  -- the nodes behind a contradiction may be left out
  pub relations_closed : (t i m : ℕ) (w : Work) → i ≤ m → (rising (use_relation (in_bytes net.size) net S t) i w).closed ≡ true
      → rising (use_relation (in_bytes net.size) net S t) i w ≡ rising (use_relation (in_bytes net.size) net S t) m w
  relations_closed t i m w h c =
      sym (rising_stops (use_relation (in_bytes net.size) net S t) i m w h (λ j _. relation-closed t j (rising (use_relation (in_bytes net.size) net S t) i w) c))

  -- ---- pins of an output that is unknown

  pin-silent : (s : StuckLines) (v : ℕ → ℕ) (n o k : ℕ) → 2 ≤ o → pin_conclusion net s v n o k ≡ 2
  unfolding pin_conclusion
  pin-silent s v n o k h =
      let vs = pin_values net s v n in
      let c = controlling (rule_of (net.kind n)).gate in
      let free = is_unknown (s.pin n k) in
      let no-first = differ_unknown (gate (net.kind n) (set vs k c)) o h in
      let no_second = differ_unknown (gate (net.kind n) (set vs k (neg c))) o h in
      (λ i. elim (free && no-first i) [ true ↦ neg c | false ↦ elim (free && no_second i) [ true ↦ c | false ↦ 2 ] ]) ∙ go free c
    where
      go : (b : Bool) (c : ℕ) → ◌≡◌ {A = ℕ} (elim (b && false) [ true ↦ neg c | false ↦ elim (b && false) [ true ↦ c | false ↦ 2 ] ]) 2
      go true c = refl
      go false c = refl

  -- nothing is concluded of a pin, where the output is unknown
  pub pins-silent : (n t k : ℕ) (w : Work) → 2 ≤ at w.known (t * net.size + n) → try_line (in_bytes net.size) net S n t (suc k) w ≡ w
  unfolding conclusion
  pins-silent n t k w h = go w.closed refl
    where
      p : ℕ
      p = pin_frame (net.kind n) t

      nothing : (made net S n t (suc k) w).value ≡ 2
      nothing = pin-silent (S p) (λ m. known_in w.known net.size m p) n (at w.known (t * net.size + n)) k h

      go : (b : Bool) → w.closed ≡ b → try_line (in_bytes net.size) net S n t (suc k) w ≡ w
      go true c = line-closed net S n t (suc k) w c
      go false c = line-silent net S n t (suc k) w (made net S n t (suc k) w) refl c (omega (arith, nothing))

  -- so the output's line is all
  pub output_alone : (n t m : ℕ) (w : Work) → 2 ≤ at (rising (try_line (in_bytes net.size) net S n t) 1 w).known (t * net.size + n)
      → rising (try_line (in_bytes net.size) net S n t) (suc m) w ≡ rising (try_line (in_bytes net.size) net S n t) 1 w
  output_alone n t m w h = rising_stops (try_line (in_bytes net.size) net S n t) 1 (suc m) w (omega arith) later
    where
      later : (j : ℕ) → 1 ≤ j → try_line (in_bytes net.size) net S n t j (rising (try_line (in_bytes net.size) net S n t) 1 w) ≡ rising (try_line (in_bytes net.size) net S n t) 1 w
      later zero l = absurd (not-suc-le-zero l)
      later (suc k) l = pins-silent n t k (rising (try_line (in_bytes net.size) net S n t) 1 w) h

  pub relation_output : (n t : ℕ) (w x : Work) → in_force net S n t ≡ true → x ≡ try_line (in_bytes net.size) net S n t 0 w → 2 ≤ at x.known (t * net.size + n)
      → x ≡ use_relation (in_bytes net.size) net S t n w
  unfolding rising
  relation_output n t w x e is h =
      is ∙ sym (output_alone n t (length (net.pins n)) w (subst (λ (y : Work). 2 ≤ at y.known (t * net.size + n)) is h)) ∙ sym (relation-used n t w e)

  -- ---- one sweep after the other

  module _ (W m : ℕ) (w x : Work) (is : x ≡ sweep (in_bytes net.size) net S W w) where
    went : Bool → Work
    went b = elim b [ true ↦ sweep (in_bytes net.size) net S W w | false ↦ sweeps (in_bytes net.size) net S W m (sweep (in_bytes net.size) net S W w) ]

    sweeps_are : (b : Bool) → (x.closed || eqb x.steps w.steps) ≡ b → sweeps (in_bytes net.size) net S W (suc m) w ≡ went b
    unfolding sweeps went
    sweeps_are b e = ap went (ap (λ (y : Work). y.closed || eqb y.steps w.steps) (sym is) ∙ e)

    -- a contradiction ends the branch
    pub ends-closed : x.closed ≡ true → x ≡ sweeps (in_bytes net.size) net S W (suc m) w
    unfolding went
    ends-closed e = is ∙ sym (sweeps_are true (ap (λ (b : Bool). b || eqb x.steps w.steps) e))

    -- a sweep without a step ends the branch
    pub ends-still : x.closed ≡ false → x.steps ≡ w.steps → x ≡ sweeps (in_bytes net.size) net S W (suc m) w
    unfolding went
    ends-still e q = is ∙ sym (sweeps_are true (λ j. e j || eq-eqb x.steps w.steps q j))

    -- otherwise it goes on
    pub goes_on : x.closed ≡ false → (x.steps ≡ w.steps → ⊥) → sweeps (in_bytes net.size) net S W m x ≡ sweeps (in_bytes net.size) net S W (suc m) w
    unfolding went
    goes_on e d = ap (sweeps (in_bytes net.size) net S W m) is ∙ sym (sweeps_are false (λ j. e j || ne_eqb x.steps w.steps d j))

-- one line, by the ways out of it, and the relations at a frame
pub ruleset lines = (line-closed, line-silent, line-old, line-new, steps-below)

pub ruleset relations = (relations_closed, relations_tally)

-- one relation: its output's line, and those of its pins
pub ruleset one_relation = (line-tally, relation_idle, relation_output)

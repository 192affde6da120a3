-- The lent bytes stand for a branch: sweeps do the same to both.
use mathlib.Core.Bool.{Bool, ◌||◌, cond, false, not, true}
use mathlib.Core.List.{List, [], ◌++◌, ◌∷◌}
use mathlib.Core.Path.{◌∙◌, ◌≡◌, ap, subst, sym}
use Prim.Native.Nat.{◌*◌, ◌+◌, ◌<◌, ◌≤◌, suc, zero, ℕ}
use native.Mathlib.Nat.{mul_comm, mul-le-mul_right}
use native.Mathlib.Omega.{arith}
use lib.Dec.{eqb}
use lib.ListN.{length, length-append, length-replicate, length-set, replicate, set}
use lib.Seq.{get_or-set_same, sets}
use Rattle.simulator.proofs.ClockLaws.{Ordered}
use Rattle.netlist.proofs.SoundLaws.{facts, sound-size}
use Rattle.circuit.specs.Fault.{StuckLines, lines_of}
use Rattle.values.specs.Lists.{at}
use Rattle.netlist.specs.Netlist.{Net, net_of, reading, sound, most_nodes}
use Rattle.gates.specs.Value.{differ, is_unknown}
use Rattle.circuit.specs.declared.fault.Fault.{Fault}
use Rattle.knowledge.proofs.Agreement.{conclusion_agree}
use Rattle.knowledge.proofs.HoldLaws.{begin_closed_in, begin_holds_in, enter_in_slice, held-length, place-within}
use Rattle.checker.proofs.ReplayLaws.{begin_full}
use Rattle.knowledge.specs.Window.{Branch, begin, conclusion, enter, in_force, known, present_below, most_frames}
use Rattle.knowledge.specs.Inner.Slice.{Entered, Holds, begin_at, begin_in, entered, hold_frames, known_in}
use Rattle.checker.specs.Checker.{closes}
use Rattle.trace.specs.Trace.{effect_dies, one_if}
use Rattle.certificate.specs.declared.step.Step.{Step}
use Rattle.sweeps.proofs.ReplayedLaws.{begin-steps, conclusion-within, enter-steps}
use Rattle.sweeps.proofs.RisingLaws.{rising_together}
use Rattle.values.proofs.SetsLaws.{sets-after}
use Rattle.sweeps.proofs.WorkLaws.{unknowns-fewer, unknowns-most}
use Rattle.certificate.proofs.WrittenLaws.{length_run, run-append}
use Rattle.sweeps.specs.Sweeps.{branches, rising, says_nothing, sweep, sweep_frame, sweeps, try_line, use_relation, implied}
use Rattle.sweeps.specs.Inner.Work.{Work, in_bytes, take_in, tally, unknowns, work}
use Rattle.certificate.specs.Written.{run_bytes, step_bytes}

module _ (net : Net) (o : Ordered net) (S : ℕ → StuckLines) (W : ℕ) (run : List ℕ) where
  -- what the slices hold; `run` is what stood in the slice of the steps at the start
  pub record Stands (b : Branch) (w : Work) : Type 0 where
    pub holds : Holds net S W b.values w.known
    pub full : length w.known ≡ net.size * W
    pub wide : length b.values ≡ net.size * W
    pub same_closed : w.closed ≡ b.closed
    pub same_count : w.steps ≡ length b.steps
    pub same_run : w.run ≡ sets run 0 (run_bytes b.steps)

  -- ---- a step

  module _ (b : Branch) (w : Work) (r : Stands b w) (s : Step) (hn : s.node < net.size) (ht : s.frame < W) where
    one_more_lem : w.steps + 1 ≡ length (b.steps ++ (s ∷ []))
    one_more_lem = omega (arith, r.same_count, length-append b.steps (s ∷ []))

    longer_run : sets w.run (7 * w.steps) (step_bytes s) ≡ sets run 0 (run_bytes (b.steps ++ (s ∷ [])))
    unfolding run_bytes
    longer_run =
        let e : 7 * w.steps ≡ 0 + length (run_bytes b.steps) = omega (arith, r.same_count, length_run b.steps) in
        (λ i. sets (r.same_run i) (e i) (step_bytes s))
        ∙ sets-after (run_bytes b.steps) (step_bytes s) run 0
        ∙ ap (λ (l : List ℕ). sets run 0 l) (sym (run-append b.steps (s ∷ [])))

    take_stands : Stands (enter net S b s) (take_in net.size w s)
    unfolding take_in
    take_stands =
        let both =
        enter_in_slice net S W b (entered w.closed w.known) (record { holds = r.holds; full = r.full; wide = r.wide; same_closed = r.same_closed }) s hn ht in
        let more = sym (enter-steps net S b s) in
        record {
          holds = both.holds;
          full = both.full;
          wide = both.wide;
          same_closed = both.same_closed;
          same_count = one_more_lem ∙ ap length more;
          same_run = longer_run ∙ ap (λ (ss : List Step). sets run 0 (run_bytes ss)) more;
        }

  -- ---- a line of a relation

  module _ (n t i : ℕ) (hn : n < net.size) (ht : t < W) (hi : i < suc (length (net.pins n))) (b : Branch) (w : Work) (r : Stands b w) where
    abbrev sb : Step
    sb = conclusion net S (known net S b.values) n t i

    abbrev sw : Step
    sw = conclusion net S (known_in w.known net.size) n t i

    same_step_lem : sw ≡ sb
    unfolding Holds
    same_step_lem = conclusion_agree net o S W (known_in w.known net.size) (known net S b.values) r.holds n t i hn ht

    inside : (sb.node < net.size) × (sb.frame < W)
    inside = conclusion-within net o S W (known net S b.values) n t i hn ht hi

    abbrev test_b : Bool
    test_b = b.closed || (is_unknown sb.value || eqb (known net S b.values sb.node sb.frame) sb.value)

    abbrev test_w : Step → Bool
    test_w s = w.closed || (is_unknown s.value || eqb (known_in w.known net.size s.node s.frame) s.value)

    same_test : test_w sw ≡ test_b
    unfolding Holds
    same_test =
        ap test_w same_step_lem ∙ (λ j. r.same_closed j || (is_unknown sb.value || eqb (r.holds sb.node sb.frame inside.0 inside.1 j) sb.value))

    picked_b : Bool → Branch
    picked_b q = elim q [ true ↦ b | false ↦ enter net S b sb ]

    picked_w : Bool → Step → Work
    picked_w q s = elim q [ true ↦ w | false ↦ take_in net.size w s ]

    picked_stands : (q : Bool) → Stands (picked_b q) (picked_w q sb)
    unfolding picked_b picked_w
    picked_stands true = r
    picked_stands false = take_stands b w r sb inside.0 inside.1

    line_stands : Stands (try_line (branches net S) net S n t i b) (try_line (in_bytes net.size) net S n t i w)
    unfolding try_line says_nothing picked_b picked_w
    line_stands = subst (λ (x : Work). Stands (picked_b test_b) x) (λ j. picked_w (sym same_test j) (sym same_step_lem j)) (picked_stands test_b)

  -- ---- sweeps

  relation_stands : (t : ℕ) → t < W → (n : ℕ) → n < net.size → (b : Branch) (w : Work) → Stands b w → Stands (use_relation (branches net S) net S t n b) (use_relation (in_bytes net.size) net S t n w)
  unfolding use_relation
  relation_stands t ht n hn b w r = go (in_force net S n t)
    where
      go : (q : Bool) → Stands (elim q [ true ↦ rising (try_line (branches net S) net S n t) (suc (length (net.pins n))) b | false ↦ b ])
          (elim q [ true ↦ rising (try_line (in_bytes net.size) net S n t) (suc (length (net.pins n))) w | false ↦ w ])
      go true =
          rising_together (try_line (branches net S) net S n t) (try_line (in_bytes net.size) net S n t) Stands (suc (length (net.pins n)))
          (λ i hi x y q. line_stands n t i hn ht hi x y q) b w r
      go false = r

  frame_stands : (t : ℕ) → t < W → (b : Branch) (w : Work) → Stands b w → Stands (sweep_frame (branches net S) net S t b) (sweep_frame (in_bytes net.size) net S t w)
  unfolding sweep_frame
  frame_stands t ht b w r = rising_together (use_relation (branches net S) net S t) (use_relation (in_bytes net.size) net S t) Stands net.size (relation_stands t ht) b w r

  sweep_stands : (b : Branch) (w : Work) → Stands b w → Stands (sweep (branches net S) net S W b) (sweep (in_bytes net.size) net S W w)
  unfolding sweep
  sweep_stands b w r = rising_together (sweep_frame (branches net S) net S) (sweep_frame (in_bytes net.size) net S) Stands W frame_stands b w r

  pub sweeps_stand : (m : ℕ) (b : Branch) (w : Work) → Stands b w → Stands (sweeps (branches net S) net S W m b) (sweeps (in_bytes net.size) net S W m w)
  unfolding sweeps
  sweeps_stand zero b w r = r
  sweeps_stand (suc m) b w r = go (b'.closed || eqb (length b'.steps) (length b.steps)) (w'.closed || eqb w'.steps w.steps) same (λ q. sweeps_stand m b' w' q)
    where
      b' : Branch
      b' = sweep (branches net S) net S W b

      w' : Work
      w' = sweep (in_bytes net.size) net S W w

      r' : Stands b' w'
      r' = sweep_stands b w r

      same : (w'.closed || eqb w'.steps w.steps) ≡ (b'.closed || eqb (length b'.steps) (length b.steps))
      same = λ j. r'.same_closed j || eqb (r'.same_count j) (r.same_count j)

      go : (p q : Bool) → q ≡ p → (Stands b' w' → Stands (sweeps (branches net S) net S W m b') (sweeps (in_bytes net.size) net S W m w'))
          → Stands (elim p [ true ↦ b' | false ↦ sweeps (branches net S) net S W m b' ]) (elim q [ true ↦ w' | false ↦ sweeps (in_bytes net.size) net S W m w' ])
      go p q e k = subst (λ (x : Bool). Stands (ended p) (elim x [ true ↦ w' | false ↦ sweeps (in_bytes net.size) net S W m w' ])) (sym e) (on p k)
        where
          ended : Bool → Branch
          ended p = elim p [ true ↦ b' | false ↦ sweeps (branches net S) net S W m b' ]

          on : (p : Bool) → (Stands b' w' → Stands (sweeps (branches net S) net S W m b') (sweeps (in_bytes net.size) net S W m w'))
              → Stands (elim p [ true ↦ b' | false ↦ sweeps (branches net S) net S W m b' ]) (elim p [ true ↦ w' | false ↦ sweeps (in_bytes net.size) net S W m w' ])
          on true k = r'
          on false k = k r'

-- ---- a branch from its start on

module _ (net : Net) (o : Ordered net) (f : Fault) (c W : ℕ) (run : List ℕ) (n t v : ℕ) (hf : f.node < net.size) (hu : f.stuck < 2) (hc : c ≤ W) (hn : n < net.size) (ht : t < W) (hv : v < 2) where
  start : Work
  start = work (begin_in net.size f c (net.size * W) n t v).bytes run 0 (begin_in net.size f c (net.size * W) n t v).closed

  bytes : List ℕ
  bytes = hold_frames net.size f c (replicate (net.size * W) 2)

  place : ℕ
  place = t * net.size + n

  bytes-length : length bytes ≡ net.size * W
  unfolding bytes
  bytes-length = held-length net.size f c (replicate (net.size * W) 2) ∙ length-replicate (net.size * W) 2

  entry : Bool → Entered
  entry q = cond q (entered true bytes) (entered false (set bytes place v))

  pub begin-length : length (begin_in net.size f c (net.size * W) n t v).bytes ≡ net.size * W
  unfolding begin_in begin_at bytes place entry
  begin-length = go (differ (at bytes place) v)
    where
      go : (q : Bool) → length (entry q).bytes ≡ net.size * W
      go true = bytes-length
      go false = length-set bytes place v ∙ bytes-length

  -- a branch can make as many steps as there are places
  pub begin-tally : tally (work (begin_in net.size f c (net.size * W) n t v).bytes run 0 (begin_in net.size f c (net.size * W) n t v).closed) ≤ net.size * W
  unfolding begin_in begin_at bytes place entry tally
  begin-tally = go (differ (at bytes place) v)
    where
      inside : place < length bytes
      inside = omega (arith, bytes-length, place-within net.size W n t hn ht)

      go : (q : Bool) → 0 + unknowns (entry q).bytes + one_if (not (entry q).closed) ≤ net.size * W
      go true = omega (arith, unknowns-most bytes, bytes-length)
      go false =
          let e : at (set bytes place v) place ≡ v = get_or-set_same bytes place v 0 inside in
          let h : at (set bytes place v) place < 2 = omega (arith, e) in
          omega (arith, unknowns-fewer (set bytes place v) place (omega (arith, length-set bytes place v, inside)) h, length-set bytes place v, bytes-length)

  begin-stands : Stands net o (present_below c (lines_of f)) W run (begin net (present_below c (lines_of f)) W n t v) start
  unfolding start run_bytes
  begin-stands =
      record {
        holds = begin_holds_in net f W hf hu c n t v hc hn ht hv;
        full = begin-length;
        wide = begin_full net (present_below c (lines_of f)) W n t v;
        same_closed = begin_closed_in net f W hf hu c n t v hc hn ht hv;
        same_count = ap length (sym (begin-steps net (present_below c (lines_of f)) W n t v));
        same_run = ap (λ (ss : List Step). sets run 0 (run_bytes ss)) (sym (begin-steps net (present_below c (lines_of f)) W n t v));
      }

  -- THE law for the code: the sweeps on bytes stand for the branch worked out
  pub implied_stands : Stands net o (present_below c (lines_of f)) W run (implied net (present_below c (lines_of f)) W n t v)
      (sweeps (in_bytes net.size) net (present_below c (lines_of f)) W (suc (net.size * W))
      (work (begin_in net.size f c (net.size * W) n t v).bytes run 0 (begin_in net.size f c (net.size * W) n t v).closed))
  unfolding implied start
  implied_stands = sweeps_stand net o (present_below c (lines_of f)) W run (suc (net.size * W)) (begin net (present_below c (lines_of f)) W n t v) start begin-stands

-- a window of a sound netlist has at most 4,096 × 15 places
pub window-few : (bs : List ℕ) (n p W : ℕ) → reading bs ≡ sound n p → W ≤ most_frames → (net_of bs).size * W ≤ most_nodes * most_frames
window-few bs n p W e h =
    let small : (net_of bs).size ≤ most_nodes = omega (arith, (facts bs n p e).few_nodes, sound-size bs n p e) in
    omega (arith, mul-le-mul_right W small, mul_comm most_nodes W)

-- a branch closes by contradiction, or if its effect trace dies
module _ (net : Net) (f : StuckLines) (c F : ℕ) (b : Branch) where
  ending : Bool → Bool
  ending q = elim q [ true ↦ true | false ↦ effect_dies net (known net (present_below c f) b.values) F c f [] ]

  pub closes-closed : b.closed ≡ true → true ≡ closes net f c F b
  unfolding closes ending
  closes-closed e = sym (ap ending e)

  pub closes-traced : b.closed ≡ false → effect_dies net (known net (present_below c f) b.values) F c f [] ≡ closes net f c F b
  unfolding closes ending
  closes-traced e = sym (ap ending e)

-- A split that is tried, in the code's own type: what its window shows, and its branches worked out in lent bytes. The branch at its start
-- is `first`, and the sweeps from there leave `swept`. That these stand for the branch of the definition, value by value and step by step,
-- is the law `implied_stands`. The tally bounds the steps: at the start it is at most the window's places, and no sweep alters it.
use Prim.Native.Nat.{◌*◌, ◌+◌, ◌<◌, ◌≤◌, suc, ℕ}
use native.Mathlib.Nat.{mul-le-mul_left}
use native.Mathlib.Numerals.{add-one}
use native.Mathlib.Omega.{arith}
use mathlib.Core.Bool.{Bool, false, true}
use mathlib.Core.List.{List, []}
use mathlib.Core.Path.{◌∙◌, ◌≡◌, ap, refl, subst, sym}
use lib.ListN.{length}
use Rattle.netlist.specs.Netlist.{most_nodes, net_of, pin_count, reading, sound}
use Rattle.simulator.proofs.ClockLaws.{Ordered, sound-ordered}
use Rattle.circuit.specs.Fault.{lines_of}
use Rattle.knowledge.proofs.HoldLaws.{fault_says}
use Rattle.knowledge.specs.Inner.Slice.{Entered, Holds, begin_in, entered, known_in}
use Rattle.knowledge.specs.Window.{known, most_frames, present_below}
use Rattle.trace.proofs.TraceAgreement.{dies_agree}
use Rattle.trace.proofs.TouchedLaws.{tracing_long}
use Rattle.trace.specs.Inner.Tracing.{Traced, tracing}
use Rattle.sweeps.specs.declared.window.Trial.{Trial}
use Rattle.sweeps.specs.Sweeps.{sweeps}
use Rattle.sweeps.specs.Splits.{branch_of}
use Rattle.sweeps.specs.Inner.Branches.{HoldsBranch, branch_in, bytes_in, closes_in, frames_in, net_in, stuck_in}
use Rattle.sweeps.specs.Inner.Windows.{FewSteps, places_in, sweeps_in}
use Rattle.sweeps.specs.Inner.Work.{Work, in_bytes, tally, work}
use Rattle.sweeps.proofs.StandsLaws.{Stands, begin-tally, closes-closed, closes-traced, implied_stands, window-few}
use Rattle.sweeps.proofs.TrialLaws.{holds-bytes, stands}
use Rattle.sweeps.proofs.TrialLaws.{Stands as TrialStands}
use Rattle.sweeps.proofs.WorkLaws.{steps-within, sweeps-tally}

module _ (t : Trial) where
  -- what holds of it
  pub standing : TrialStands t.window.netlist.now t.window.fault t.f t.split (places_in t.window)
  standing = stands t.window.netlist.now t.window.fault t.f t.split (places_in t.window) t.stands

  pub trial_reads : reading t.window.netlist.now ≡ sound t.window.n (pin_count t.window.netlist.now)
  unfolding net_of
  trial_reads = standing.reads ∙ ap (λ (x : ℕ). sound x (pin_count t.window.netlist.now)) (sym t.window.counted)

  -- a window has few places
  pub trial_few : places_in t.window ≤ most_nodes * most_frames
  trial_few = omega (arith, standing.size, window-few t.window.netlist.now t.window.n (pin_count t.window.netlist.now) (frames_in t) trial_reads standing.short)

  pub trial_ordered : Ordered (net_in t)
  trial_ordered = sound-ordered t.window.netlist.now t.window.n (pin_count t.window.netlist.now) trial_reads

  module _ (v : ℕ) (low : v < 2) (run : List ℕ) where
    -- the branch at its start, and as the sweeps leave it
    abbrev first : Work
    first = let b = begin_in (net_in t).size t.window.fault t.split.c ((net_in t).size * frames_in t) t.split.node t.split.frame v in work b.bytes run 0 b.closed

    first-tally : tally first ≤ places_in t.window
    first-tally =
        let fs = fault_says (net_in t) t.window.fault standing.exists in
        let h : t.split.c ≤ frames_in t = omega arith in
        let m = begin-tally (net_in t) trial_ordered t.window.fault t.split.c (frames_in t) run t.split.node t.split.frame v fs.0 fs.1 h standing.node standing.frame low in
        omega (arith, m, standing.size)

    abbrev swept : Work
    swept = sweeps (in_bytes (net_in t).size) (net_in t) (stuck_in t) (frames_in t) (suc ((net_in t).size * frames_in t)) first

    stand : Stands (net_in t) trial_ordered (stuck_in t) (frames_in t) run (branch_in t v) swept
    unfolding branch_of
    stand =
        let fs = fault_says (net_in t) t.window.fault standing.exists in
        let h : t.split.c ≤ frames_in t = omega arith in
        implied_stands (net_in t) trial_ordered t.window.fault t.split.c (frames_in t) run t.split.node t.split.frame v fs.0 fs.1 h standing.node standing.frame low

    -- what it begins with in a slice of so many places
    begins : (places : ℕ) → places ≡ places_in t.window → (known : List ℕ) (closed : Bool)
        → entered closed known ≡ begin_in (net_in t).size t.window.fault t.split.c places t.split.node t.split.frame v → work known run 0 closed ≡ first
    begins places m known closed e =
        ap (λ (x : Entered). work x.bytes run 0 x.closed) (e ∙ ap (λ (x : ℕ). begin_in (net_in t).size t.window.fault t.split.c x t.split.node t.split.frame v) (m ∙ standing.size))

    pub begins_few : (places : ℕ) → places ≡ places_in t.window → (known : List ℕ) (closed : Bool)
        → entered closed known ≡ begin_in (net_in t).size t.window.fault t.split.c places t.split.node t.split.frame v → FewSteps (work known run 0 closed)
    begins_few places m known closed e = omega (arith, ap tally (begins places m known closed e), first-tally, trial_few)

    -- what the sweeps leave stands for the branch
    module _ (places : ℕ) (m : places ≡ places_in t.window) (start : List ℕ) (closed : Bool)
        (b : entered closed start ≡ begin_in (net_in t).size t.window.fault t.split.c places t.split.node t.split.frame v)
        (w : Work) (e : w ≡ sweeps_in t.window (places_in t.window + 1) (work start run 0 closed)) where
      is : w ≡ swept
      is =
          let most = (λ i. t.window.counted i * t.of_split.1 i + 1) ∙ add-one ((net_in t).size * frames_in t) in
          let stuck : present_below t.window.c (lines_of t.window.fault) ≡ stuck_in t = λ i. present_below (t.of_split.0 i) (lines_of t.window.fault) in
          e ∙ (λ i. sweeps (in_bytes (net_in t).size) (net_in t) (stuck i) (t.of_split.1 i) (most i) (begins places m start closed b i))

      pub sweeps_stand_for : Stands (net_in t) trial_ordered (stuck_in t) (frames_in t) run (branch_in t v) w
      sweeps_stand_for = subst (λ (y : Work). Stands (net_in t) trial_ordered (stuck_in t) (frames_in t) run (branch_in t v) y) (sym is) stand

      pub sweeps_few : w.steps ≤ places_in t.window
      sweeps_few = omega (arith, steps-within w, ap tally is, sweeps-tally (net_in t) (stuck_in t) (frames_in t) (suc ((net_in t).size * frames_in t)) first, first-tally)

  -- ---- whether a branch closes

  module _ (v : ℕ) (left : List ℕ) (holds : HoldsBranch t v left) where
    -- the bytes left behind are what is known in the branch
    pub branch-bytes : length left ≡ places_in t.window → left ≡ bytes_in t v
    branch-bytes m =
        let some : 0 < (net_in t).size = omega (arith, standing.node) in
        holds-bytes (net_in t) (stuck_in t) (frames_in t) (branch_in t v).values left some (m ∙ standing.size) holds

    -- The trace goes by the bytes as it does by what is known: an open branch closes if its effect dies. There is room for what is touched.
    pub branch-dies : (branch_in t v).closed ≡ false → (touched : List ℕ) (d : Traced) → length touched ≡ places_in t.window
        → d ≡ tracing (net_in t) (lines_of t.window.fault) t.split.c t.f (known_in left (net_in t).size) touched → d.dies ≡ closes_in t v
    unfolding Holds
    branch-dies unclosed touched d m e =
        let g : (net_in t).size * (t.f + 1) ≤ (net_in t).size * frames_in t = mul-le-mul_left (net_in t).size (omega arith) in
        let long = tracing_long (net_in t) (lines_of t.window.fault) t.split.c t.f (known_in left (net_in t).size) touched (omega (arith, g, m, standing.size)) in
        let h : t.split.c + t.f < frames_in t = omega arith in
        ap (λ (x : Traced). x.dies) (e ∙ sym long)
        ∙ dies_agree (net_in t) trial_ordered (frames_in t) (known_in left (net_in t).size) (known (net_in t) (stuck_in t) (branch_in t v).values) holds
        t.f t.split.c (lines_of t.window.fault) [] [] h (λ _ _. refl)
        ∙ closes-traced (net_in t) (lines_of t.window.fault) t.split.c t.f (branch_in t v) unclosed

  -- a branch that is closed by contradiction closes
  pub branch-shut : (v : ℕ) → (branch_in t v).closed ≡ true → true ≡ closes_in t v
  branch-shut v = closes-closed (net_in t) (lines_of t.window.fault) t.split.c t.f (branch_in t v)

-- what is known at a branch's end, and that one closed by contradiction closes
pub ruleset branch_ends = (branch-bytes, branch-shut)

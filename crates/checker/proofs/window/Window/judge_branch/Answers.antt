-- A branch, judged step by step. The loop's invariant says where the walk stands: the steps that the reader has left are to come, `known`
-- holds what is known in the branch that those before have reached, and `closed` says whether it is contradicted. `begins` shows it before
-- the first step, `step-entered` behind a step that is allowed. A step after a contradiction, or one that does not follow, is not allowed.
-- At the run's end (`ends`) a contradicted branch closes, and of another the trace says whether it does.
use Prim.Native.Nat.{ℕ, ◌<◌, ◌≤◌, ◌+◌, ◌*◌, ◌/◌}
use native.Mathlib.Nat.{mul-le-mul_left}
use native.Mathlib.Omega.{arith}
use Rattle.std.proofs.Common.{rules}
use mathlib.Core.Path.{◌≡◌, ◌∙◌, ap, sym, subst}
use mathlib.Core.List.{List, [], ◌∷◌}
use mathlib.Core.Bool.{Bool, ◌&&◌, ◌||◌, false, not, true}
use lib.ListN.{length}
use Rattle.netlist.specs.Netlist.{pin_count}
use Rattle.netlist.specs.declared.refusal.Refusal.{Refusal}
use Rattle.netlist.proofs.SoundLaws.{sound-size}
use Rattle.circuit.specs.Fault.{lines_of}
use Rattle.simulator.proofs.ClockLaws.{Ordered, sound-ordered}
use Rattle.certificate.specs.Certificate.{steps_in}
use Rattle.certificate.specs.Inner.Reading.{steps_left}
use Rattle.certificate.specs.declared.step.Step.{Step}
use Rattle.knowledge.specs.Inner.Slice.{Entered, Holds, begin_in, enter_at, entered}
use Rattle.knowledge.specs.Window.{Branch, begin}
use Rattle.knowledge.proofs.HoldLaws.{InSlice, begin_closed_in, begin_holds_in, fault_says}
use Rattle.trace.specs.Trace.{effect_dies}
use Rattle.trace.specs.Inner.Tracing.{Traced}
use Rattle.trace.proofs.TouchedLaws.{tracing_long}
use Rattle.checker.specs.Checker.{follows, replay}
use Rattle.checker.specs.Inner.Judgement.{judgement}
use Rattle.checker.specs.Inner.Within.{window_known, window_net, window_stuck}
use Rattle.std.specs.Prelude.{Ok, Result}
use Rattle.checker.specs.declared.window.Window.{Window}
use Rattle.checker.proofs.ReplayLaws.{Reached, begin_full, judged_ended, judged-refused, step-entered}
use Rattle.checker.proofs.window.Window.judge_branch.Goals as goal
use Rattle.checker.proofs.window.Window.judge_branch.Goals.{In-None, In-Some, then-closed-via-then-closed, then-closed-via-else-closed+then-not-step_follows}

-- a run's steps, and the branch that they begin with
abbrev Steps : List ℕ → List Step
Steps run = steps_in (length run / 7) run

abbrev Start : Window → ℕ → Branch
Start w v = begin (window_net w) (window_stuck w) w.w w.head.node w.head.frame v

-- the walk of a run's steps, with `rest` of them left, and what is found of the branch
abbrev Walk : Window → ℕ → List ℕ → List Step → Entered → Type 0
Walk w v run rest e = Reached (window_net w) (window_stuck w) w.w (Steps run) rest (Start w v) e

abbrev Found : Window → ℕ → List ℕ → Result Bool Refusal
Found w v run = judgement (window_net w) (lines_of w.head.fault) w.head.c w.head.f (replay (window_net w) (window_stuck w) w.w (Steps run) (Start w v))

-- the trace, from what is known in the slice
abbrev dies_at : Window → List ℕ → Bool
dies_at w known = effect_dies (window_net w) (window_known w known) w.head.f w.head.c (lines_of w.head.fault) []

size_of : (w : Window) → w.n ≡ (window_net w).size
size_of w = sound-size w.netlist.now w.n (pin_count w.netlist.now) w.sound_netlist

order_of : (w : Window) → Ordered (window_net w)
order_of w = sound-ordered w.netlist.now w.n (pin_count w.netlist.now) w.sound_netlist

-- what the branch begins with is what stands in the slice then
begins : (w : Window) (v : ℕ) → w.head.node < w.n → w.head.frame < w.w → v < 2 → {e : Entered}
    → length e.bytes ≡ (window_net w).size * w.w → e ≡ begin_in (window_net w).size w.head.fault w.head.c ((window_net w).size * w.w) w.head.node w.head.frame v
    → InSlice (window_net w) (window_stuck w) w.w (Start w v) e
begins w v hn ht hv {e} full q =
    let h = w.head in
    let fs = fault_says (window_net w) h.fault w.fault_in_circuit in
    let hc : h.c ≤ w.w = omega (arith, w.frames_in_all) in
    let within : h.node < (window_net w).size = omega (arith, size_of w) in
    record {
      holds = subst (λ (x : Entered). Holds (window_net w) (window_stuck w) w.w (Start w v).values x.bytes) (sym q)
          (begin_holds_in (window_net w) h.fault w.w fs.0 fs.1 h.c h.node h.frame v hc within ht hv);
      full = full;
      wide = begin_full (window_net w) (window_stuck w) w.w h.node h.frame v;
      same_closed = ap (λ (x : Entered). x.closed) q ∙ begin_closed_in (window_net w) h.fault w.w fs.0 fs.1 h.c h.node h.frame v hc within ht hv;
    }

pub loop-step-init : goal.loop-step-init
loop-step-init c =
    let w = c.args.self in
    let full : length c.args.known.now ≡ (window_net w).size * w.w = c.requires.slices_fit.0 ∙ ap (λ (x : ℕ). x * w.w) (size_of w) in
    let split = c.requires.split_within in
    let e = c.begin_branch-closed in
    let reader = c.into_iter-step-iterator.result in
    let whole : steps_left reader.run.now reader.at ≡ Steps c.args.run.now = cc in
    record {
      branch = Start w c.args.v;
      replays = ap (λ (ss : List Step). replay (window_net w) (window_stuck w) w.w ss (Start w c.args.v)) (sym whole);
      slice = begins w c.args.v split.0 split.1 c.requires.v_is_value (e.auto.known ∙ full)
          (e.ensures ∙ ap (λ (x : ℕ). begin_in (window_net w).size w.head.fault w.head.c x w.head.node w.head.frame c.args.v) full);
    }

-- a step is read
walked : (c : In-Some) → Walk c.args.self c.args.v c.args.run.now (c.in-Some.step ∷ steps_left c.next.new.self.run.now c.next.new.self.at) (entered c.loop-step.closed c.loop-step.known)
walked c =
    let l = c.loop-step in
    subst (λ (ss : List Step). Walk c.args.self c.args.v c.args.run.now ss (entered l.closed l.known)) c.in-Some.ensures.steps l.invariant

pub returns-then-closed : goal.returns-then-closed
returns-then-closed c =
    let w = c.args.self in
    let l = c.loop-step in
    let follows_here = follows (window_net w) (window_stuck w) w.w (window_known w l.known) c.in-Some.step in
    let no : (not l.closed && follows_here) ≡ false =
    elim c.then-closed.branch [
      | then-closed-via-then-closed t ↦ ap (λ (q : Bool). not q && follows_here) t.if-closed.true
      | then-closed-via-else-closed+then-not-step_follows t ↦ λ i. not (t.if-closed.false i) && (sym t.step_follows.ensures ∙ t.if-not-step_follows.true) i
    ] in
    judged-refused (window_net w) (order_of w) (lines_of w.head.fault) w.head.c w.head.f w.w (walked (goal.at.returns-then-closed c).In-Some) no

pub loop-step-preserved : goal.loop-step-preserved
loop-step-preserved c =
    let w = c.args.self in
    let s = c.in-Some.step in
    let n = c.enter_value-closed in
    let place = c.place_of-place.ensures ∙ ap (λ (x : ℕ). s.frame * x + s.node) (size_of w) in
    let e = n.ensures ∙ ap (λ (i : ℕ). enter_at c.loop-step.known i s.value) place in
    let yes : (not c.loop-step.closed && follows (window_net w) (window_stuck w) w.w (window_known w c.loop-step.known) s) ≡ true =
    λ i. not (c.if-closed.false i) && (sym c.step_follows.ensures ∙ c.if-not-step_follows.false) i in
    subst (λ (x : Entered). Walk w c.args.v c.args.run.now (steps_left c.next.new.self.run.now c.next.new.self.at) x) (sym e)
    (step-entered (window_net w) (order_of w) (window_stuck w) w.w (walked (goal.at.loop-step-preserved c).In-Some) yes)

-- the last step was read
ends : (c : In-None) → Ok (c.loop-step.closed || dies_at c.args.self c.loop-step.known) ≡ Found c.args.self c.args.v c.args.run.now
ends c =
    let w = c.args.self in
    let l = c.loop-step in
    judged_ended (window_net w) (order_of w) (lines_of w.head.fault) w.head.c w.head.f w.w (omega (arith, w.frames_in_all))
    (subst (λ (ss : List Step). Walk w c.args.v c.args.run.now ss (entered l.closed l.known)) c.in-None.ensures.steps.0 l.invariant)

pub returns-then-closed-2 : goal.returns-then-closed-2
returns-then-closed-2 c =
    let said = ends (goal.at.returns-then-closed-2 c).In-None in
    search (rules, said)

-- the trace has room in the lent slice
pub returns-else-closed-2 : goal.returns-else-closed-2
returns-else-closed-2 c =
    let w = c.args.self in
    let h = w.head in
    let known = window_known w c.loop-step.known in
    let touched = c.args.touched.now in
    let lent : length touched ≡ (window_net w).size * w.w = c.requires.slices_fit.1 ∙ ap (λ (x : ℕ). x * w.w) (size_of w) in
    let m : (window_net w).size * (h.f + 1) ≤ (window_net w).size * w.w = mul-le-mul_left (window_net w).size (omega (arith, w.frames_in_all)) in
    let long = tracing_long (window_net w) (lines_of h.fault) h.c h.f known touched (omega (arith, m, lent)) in
    let dies = ap (λ (x : Traced). x.dies) (c.effect_dies.ensures ∙ sym long) in
    (λ i. Ok (sym c.if-closed-2.false i || dies i)) ∙ ends (goal.at.returns-else-closed-2 c).In-None

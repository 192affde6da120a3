-- The loop makes one sweep after the other, as the definition's `sweeps` does. The invariant: what the sweeps still to come make of the
-- branch here is what all of them make of it at the start; the tally is the same, and the frames that are noted calm are. A sweep that
-- meets a contradiction ends it (`ends-closed`), and so does one without a step (`ends-still`); else it goes on (`goes_on`). Where as
-- many sweeps are made as the definition makes, none is to come. At first no frame is calm (`calm_none`).
use Prim.Native.Nat.{ℕ, suc, ◌+◌, ◌-◌, ◌<◌}
use native.Mathlib.Omega.{arith}
use mathlib.Core.Bool.{false, true}
use mathlib.Core.Logic.{◌⊎◌, inl, inr}
use mathlib.Core.Path.{◌≡◌, ◌∙◌, ap, refl}
use Rattle.knowledge.specs.Window.{most_frames}
use Rattle.sweeps.specs.declared.window.Window.{Window}
use Rattle.sweeps.specs.Inner.Work.{Work, tally}
use Rattle.sweeps.specs.Inner.Windows.{circuit_of, stuck_lines, sweep_in, sweeps_in, work_of}
use Rattle.sweeps.proofs.WorkLaws.{ends-closed, ends-still, goes_on, sweep-tally}
use Rattle.sweeps.proofs.CalmLaws.{calm_none}
use Rattle.sweeps.proofs.window.Window.sweep_to_end.Goals as goal

-- the sweeps still to come are this one and those behind it
this_one : (x : Window) (here : Work) (most made : ℕ) → made < most → sweeps_in x (suc (most - (made + 1))) here ≡ sweeps_in x (most - made) here
this_one x here most made h = let z : suc (most - (made + 1)) ≡ most - made = omega (arith, h) in ap (λ (k : ℕ). sweeps_in x k here) z

-- a sweep ends the branch by a contradiction, or without a step
ends : (x : Window) (m : ℕ) (here swept : Work) → swept ≡ sweep_in x here
    → (swept.closed ≡ true) ⊎ ((swept.closed ≡ false) × (swept.steps ≡ here.steps)) → swept ≡ sweeps_in x (suc m) here
ends x m here swept is (inl e) = ends-closed (circuit_of x) (stuck_lines x) x.w m here swept is e
ends x m here swept is (inr e) = ends-still (circuit_of x) (stuck_lines x) x.w m here swept is e.0 e.1

pub loop-init : goal.loop-init
loop-init c =
    let a = c.args in
    let first = work_of a.known.now a.run.now a.progress in
    let most = c.places-most.result + 1 in
    let z : most - 0 ≡ most = omega arith in
    record {
      few = refl;
      to_come = ap (λ (k : ℕ). sweeps_in a.self k first) z;
      calm = calm_none (circuit_of a.self) (stuck_lines a.self) most_frames first;
    }

pub returns-then-done : goal.returns-then-done
returns-then-done c =
    let a = c.args in
    let l = c.loop in
    let t = c.sweep-done in
    let here = work_of l.known l.run l.done in
    let x = work_of t.new.known t.new.run t.result in
    ends a.self _ here x t.ensures.swept c.then-done.either
    ∙ this_one a.self here (c.places-most.result + 1) l.counter c.loop-test.true
    ∙ l.invariant.to_come
    ∙ ap (λ (k : ℕ). sweeps_in a.self (k + 1) (work_of a.known.now a.run.now a.progress)) c.places-most.ensures.counted

pub loop-preserved : goal.loop-preserved
loop-preserved c =
    let a = c.args in
    let l = c.loop in
    let t = c.sweep-done in
    let net = circuit_of a.self in
    let S = stuck_lines a.self in
    let here = work_of l.known l.run l.done in
    let x = work_of t.new.known t.new.run t.result in
    record {
      few = ap tally t.ensures.swept ∙ sweep-tally net S a.self.w here ∙ l.invariant.few;
      to_come =
          goes_on net S a.self.w _ here x t.ensures.swept c.if-done.false c.if-done-before.false
          ∙ this_one a.self here (c.places-most.result + 1) l.counter c.loop-test.true
          ∙ l.invariant.to_come;
      calm = t.ensures.calm_after;
    }

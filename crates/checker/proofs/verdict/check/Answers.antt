-- The checker: its tests one after the other, and behind the last the judgement of both branches. A netlist that is not sound is turned
-- back with the reader's number (`checking-unsound`), a layout that is wrong with 8. Behind it `checking-tests` says what is answered, test
-- by test (`at_fault`, `at_slices`). At the end `judge` answers for the first N × W bytes of both work slices, and `answer_means` adds
-- the theorem.
use lib.Dec.{leb}
use lib.ListN.{drop, length, replicate}
use lib.Seq.{length-take-le}
use mathlib.Core.List.{◌++◌}
use mathlib.Core.Path.{◌∙◌, ◌≡◌, ap, refl, sym}
use Prim.Native.Nat.{ℕ, ◌*◌, ◌+◌}
use borrow.Author.Tests.{leb-true}
use Rattle.std.proofs.Common.{rules}
use Rattle.values.proofs.BoolLaws.{and_left, and_right}
use Rattle.netlist.proofs.RefusalLaws.{fails_here}
use Rattle.netlist.proofs.SoundLaws.{sound-size}
use Rattle.netlist.specs.Answer.{Outcome, outcome}
use Rattle.netlist.specs.Netlist.{reading_says}
use Rattle.certificate.specs.declared.layout.Head.{Head}
use Rattle.checker.specs.Checker.{CheckerCall, checker_call, checking, judged, window_size}
use Rattle.checker.proofs.Theorem.{answer_means}
use Rattle.checker.proofs.VerdictLaws.{checking-refused, checking-tests, checking-unsound, frames_err, frames_ok, from_fault, from_slices}
use Rattle.checker.proofs.VerdictLaws.{goes_past, slices_err, slices_ok, stops_at}
use Rattle.checker.proofs.verdict.check.Goals as goal
use Rattle.checker.proofs.verdict.check.Goals.{After-head_of-head, In_ok-w, Start}

-- what is asked
abbrev call : Start → CheckerCall
call c = let a = c.args in checker_call a.netlist.now a.certificate.now a.first.now a.second.now

pub returns-in_default-clause-outcome : goal.returns-in_default-clause-outcome
returns-in_default-clause-outcome c =
    let q = call (goal.at.returns-in_default-clause-outcome c).Start in
    let unsound = sym c.read-answer.ensures ∙ ap reading_says c.unwrap_err.ensures in
    let answer = sym (checking-unsound q _ unsound) in
    assumption answer

pub returns-then-not-layout_right-clause-outcome : goal.returns-then-not-layout_right-clause-outcome
returns-then-not-layout_right-clause-outcome c =
    let q = call (goal.at.returns-then-not-layout_right-clause-outcome c).Start in
    let answer = sym (checking-refused q 8 (sym c.in-Ok.ensures) (fails_here (sym c.layout_right.ensures ∙ c.if-not-layout_right.true) refl)) in
    assumption answer

-- the layout is right, and the head is read
at_fault : (c : After-head_of-head) → checking (call (goal.at.After-head_of-head c).Start)
    ≡ from_fault (call (goal.at.After-head_of-head c).Start) c.in-Ok.size.nodes c.head_of-head.result
at_fault c =
    checking-tests (call (goal.at.After-head_of-head c).Start) c.in-Ok.size.nodes c.in-Ok.size.pins c.head_of-head.result
    (sym c.in-Ok.ensures) c.head_of-head.ensures (sym c.layout_right.ensures ∙ c.if-not-layout_right.false)

pub returns-then-not-fault_exists-clause-outcome : goal.returns-then-not-fault_exists-clause-outcome
returns-then-not-fault_exists-clause-outcome c =
    let answer = stops_at _ _ _ (at_fault (goal.at.returns-then-not-fault_exists-clause-outcome c).After-head_of-head) (sym c.fault_exists.ensures ∙ c.if-not-fault_exists.true) in
    assumption answer

pub returns-in_err-w-clause-outcome : goal.returns-in_err-w-clause-outcome
returns-in_err-w-clause-outcome c =
    let fault = at_fault (goal.at.returns-in_err-w-clause-outcome c).After-head_of-head in
    let wide = frames_err _ _ _ c.in_err-w.ensures in
    let answer = stops_at _ _ _ (goes_past _ _ _ fault (sym c.fault_exists.ensures ∙ c.if-not-fault_exists.false)) wide.0 in
    let number = wide.1 in
    search (rules, answer, number)

-- the fault exists, and the window has so many frames
at_slices : (c : In_ok-w) → checking (call (goal.at.In_ok-w c).Start)
    ≡ from_slices (call (goal.at.In_ok-w c).Start) c.in-Ok.size.nodes c.in_ok-w.w c.head_of-head.result
at_slices c =
    let q = call (goal.at.In_ok-w c).Start in
    let n = c.in-Ok.size.nodes in
    let h = c.head_of-head.result in
    let fault = checking-tests q n c.in-Ok.size.pins h (sym c.in-Ok.ensures) c.head_of-head.ensures (sym c.layout_right.ensures ∙ c.if-not-layout_right.false) in
    let narrow = frames_ok _ _ _ c.in_ok-w.ensures in
    goes_past _ _ _ (goes_past _ _ _ fault (sym c.fault_exists.ensures ∙ c.if-not-fault_exists.false)) narrow.0
    ∙ sym (ap (λ (w : ℕ). from_slices q n w h) narrow.1)

pub returns-in_err-check_work_slices-clause-outcome : goal.returns-in_err-check_work_slices-clause-outcome
returns-in_err-check_work_slices-clause-outcome c =
    let short = slices_err _ _ c.in_err-check_work_slices.ensures in
    let answer = stops_at _ _ _ (at_slices (goal.at.returns-in_err-check_work_slices-clause-outcome c).In_ok-w) short.0 in
    let number = short.1 in
    search (rules, answer, number)

pub returns-then-not-has-clause-outcome : goal.returns-then-not-has-clause-outcome
returns-then-not-has-clause-outcome c =
    let slices = at_slices (goal.at.returns-then-not-has-clause-outcome c).In_ok-w in
    let answer = stops_at _ _ _ (goes_past _ _ _ slices (slices_ok _ c.in_ok-check_work_slices.ensures)) (sym c.has.ensures ∙ c.if-not-has.true) in
    assumption answer

pub returns-clause-outcome : goal.returns-clause-outcome
unfolding judged
returns-clause-outcome c =
    let a = c.args in
    let q = call (goal.at.returns-clause-outcome c).Start in
    let size = c.in-Ok.size.nodes * c.in_ok-w.w in
    let fit = slices_ok _ c.in_ok-check_work_slices.ensures in
    let slices = at_slices (goal.at.returns-clause-outcome c).In_ok-w in
    let answer = goes_past _ _ _ (goes_past _ _ _ slices fit) (sym c.has.ensures ∙ c.if-not-has.false) in
    let nodes = sound-size a.netlist.now c.in-Ok.size.nodes c.in-Ok.size.pins (sym c.in-Ok.ensures) in
    let frames = (frames_ok _ _ _ c.in_ok-w.ensures).1 ∙ ap (λ (h : Head). h.c + h.f + 1) c.head_of-head.ensures in
    let w : size ≡ window_size q = λ i. nodes i * frames i in
    let j = c.judge.ensures in
    let v = ap (λ (o : Outcome). o.answer) j in
    let first = leb-true size (length q.first) (and_left (leb size (length q.first)) (leb size (length q.second)) fit) in
    let second = leb-true size (length q.second) (and_right (leb size (length q.first)) (leb size (length q.second)) fit) in
    let x = ap (λ (o : Outcome). o.first) j ∙ ap (λ (m : ℕ). replicate m 0) (length-take-le size q.first first ∙ w) in
    let y = ap (λ (o : Outcome). o.second) j ∙ ap (λ (m : ℕ). replicate m 0) (length-take-le size q.second second ∙ w) in
    (λ i. outcome (v i) (x i ++ drop (w i) q.first) (y i ++ drop (w i) q.second)) ∙ sym answer

pub returns-clause-means_redundant : goal.returns-clause-means_redundant
returns-clause-means_redundant c =
    (answer_means (call (goal.at.returns-clause-means_redundant c).Start) (returns-clause-outcome c)).1

-- A turn that goes on keeps the invariant by `reached-next`; a turn that ends at a split that closes returns the first one
-- (`reached-first`), and behind the loop there is none (`reached-end`).
use Prim.Native.Nat.{ℕ, ◌<◌, ◌≤◌}
use borrow.Author.Tests.{leb-false, leb-true}
use mathlib.Core.Path.{◌∙◌, ◌≡◌, ap, refl, subst, sym}
use native.Mathlib.Omega.{arith}
use Rattle.netlist.proofs.SoundLaws.{facts}
use Rattle.netlist.specs.Netlist.{net_of, pin_count}
use Rattle.splits.specs.Inner.Next.{next_split}
use Rattle.splits.specs.declared.split.Split.{Split}
use Rattle.search.proofs.QuestionLaws.{question_size}
use Rattle.search.proofs.WalkLaws.{Reached, left, left_less, reached-end, reached-first, reached-next, reached-window}
use Rattle.search.specs.FirstSplit.{first_some, try_windows}
use Rattle.search.specs.Inner.Asked.{Asked, closing}
use Rattle.search.specs.declared.question.Question.{Question}
use Rattle.search.proofs.search.Search.walk_splits.Goals as goal
use Rattle.search.proofs.search.Search.walk_splits.Goals.{After-closes}

pub loop-question-init : goal.loop-question-init
unfolding first_some try_windows
loop-question-init c =
    let q = c.args.self.now.question in
    let s = q.netlist.now in
    let some : 0 < (net_of s).size = omega (arith, question_size q, (facts s q.n (pin_count s) q.sound_netlist).some_node) in
    let reached = reached-window (net_of s) q.fault q.f q.b 0 (omega arith) some refl in
    (subst (Reached (net_of s) q.fault q.f q.b) (sym c.first_of-split.ensures) reached, refl)

pub closes-requires : goal.closes-requires
closes-requires c =
    let r = c.loop-question.invariant.0 in
    let same = c.note_window.ensures ∙ c.loop-question.invariant.1 in
    subst (λ (x : Question). Asked x c.loop-question.split) (sym same)
    (leb-true c.loop-question.split.c c.args.self.now.question.b (sym c.is_within.ensures ∙ c.loop-question-test.true), omega (arith, r.frame_within), r.node_within)

-- the split is of a window that is asked for
low : (c : After-closes) → c.loop-question.split.c ≤ c.args.self.now.question.b
low c = leb-true c.loop-question.split.c c.args.self.now.question.b (sym c.is_within.ensures ∙ c.loop-question-test.true)

-- `closes` says of the question that is asked whether the split closes
worked : (c : After-closes) → closing c.args.self.now.question c.loop-question.split ≡ c.closes.result
worked c =
    let same = c.note_window.ensures ∙ c.loop-question.invariant.1 in
    ap (λ (x : Question). closing x c.loop-question.split) (sym same) ∙ sym c.closes.ensures.value

pub returns-then-closes : goal.returns-then-closes
returns-then-closes c =
    let q = c.args.self.now.question in
    let l = c.loop-question in
    let here = (goal.at.returns-then-closes c).After-closes in
    sym (reached-first (net_of q.netlist.now) q.fault q.f q.b l.split l.invariant.0 (low here) (worked here ∙ c.if-closes.true))

pub loop-question-smaller : goal.loop-question-smaller
loop-question-smaller c =
    let q = c.args.self.now.question in
    let s = q.netlist.now in
    let l = c.loop-question in
    let r = l.invariant.0 in
    let few : q.n ≤ 65535 = omega (arith, (facts s q.n (pin_count s) q.sound_netlist).few_nodes) in
    let less : left q.b (next_split q.n q.f l.split) < left q.b l.split =
    left_less q.n q.f q.b l.split few q.frames_few (low (goal.at.loop-question-smaller c).After-closes) r.frame_within (omega (arith, question_size q, r.node_within)) in
    subst (λ (x : Split). left q.b x < left q.b l.split) (sym c.next-split.ensures) less

pub loop-question-preserved : goal.loop-question-preserved
loop-question-preserved c =
    let q = c.args.self.now.question in
    let net = net_of q.netlist.now in
    let l = c.loop-question in
    let here = (goal.at.loop-question-preserved c).After-closes in
    let reached = reached-next net q.fault q.f q.b l.split l.invariant.0 (worked here ∙ c.if-closes.false) (low here) (omega (arith, q.frames_few)) in
    let next : next_split net.size q.f l.split ≡ c.next-split.result = ap (λ (x : ℕ). next_split x q.f l.split) (sym (question_size q)) ∙ sym c.next-split.ensures in
    (subst (Reached net q.fault q.f q.b) next reached, c.closes.ensures.same_question ∙ c.note_window.ensures ∙ l.invariant.1)

pub returns : goal.returns
returns c =
    let q = c.args.self.now.question in
    let l = c.loop-question in
    let above = leb-false l.split.c q.b (sym c.is_within.ensures ∙ c.loop-question-test.false) in
    sym (reached-end (net_of q.netlist.now) q.fault q.f q.b l.split l.invariant.0 above)

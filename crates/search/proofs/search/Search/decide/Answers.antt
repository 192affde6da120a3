-- Where no note says that the split stays open, both branches are worked out, and `trial_says` what comes of it: the answer is whether the split closes, and `known` holds what is
-- known in the branch that was worked on last. Where the split stays open, so does that branch, and with it each value that is known in
-- it (`last-kept`); so the notes that are set from it stay open too (`notes_set`).
use Prim.Native.Nat.{ℕ, ◌*◌, ◌+◌, ◌≤◌}
use lib.ListN.{length, take}
use lib.Seq.{length-take-le}
use mathlib.Core.List.{List}
use mathlib.Core.Path.{◌∙◌, ◌≡◌, ap, subst, sym}
use native.Mathlib.Nat.{mul-le-mul_left}
use native.Mathlib.Omega.{arith}
use Rattle.circuit.specs.Fault.{lines_of}
use Rattle.knowledge.specs.Window.{most_frames, present_below}
use Rattle.netlist.specs.Netlist.{net_of, pin_count}
use Rattle.simulator.proofs.ClockLaws.{sound-ordered}
use Rattle.splits.specs.Inner.NoteBytes.{noted_with}
use Rattle.sweeps.proofs.KeptLaws.{last-kept, trial_says}
use Rattle.sweeps.specs.Inner.Trials.{last_branch, window_bytes}
use Rattle.sweeps.specs.Inner.Work.{KeptOpen}
use Rattle.search.proofs.NotesLaws.{noted_places, notes_set}
use Rattle.search.proofs.QuestionLaws.{question_size}
use Rattle.search.specs.Inner.Notes.{NotedStayOpen}
use Rattle.search.specs.Inner.Asked.{Asked, closing}
use Rattle.search.specs.declared.question.Question.{Question}
use Rattle.search.proofs.search.Search.decide.Goals as goal
use Rattle.search.proofs.search.Search.decide.Goals.{After-both_close}

-- the question that is handed back asks for the split
asked : (c : After-both_close) → Asked c.note_proposed.new.self.question c.args.split
asked c = subst (λ (x : Question). Asked x c.args.split) (sym c.note_proposed.ensures) c.requires

-- what comes of working out both branches
worked : (c : After-both_close)
    → (c.both_close.result ≡ closing c.note_proposed.new.self.question c.args.split)
    × (c.both_close.new.known ≡ window_bytes (net_of c.note_proposed.new.self.question.netlist.now)
    (present_below c.args.split.c (lines_of c.note_proposed.new.self.question.fault)) (c.args.split.c + c.note_proposed.new.self.question.f + 1)
    (last_branch (net_of c.note_proposed.new.self.question.netlist.now) c.note_proposed.new.self.question.fault c.note_proposed.new.self.question.f c.args.split).values)
worked c =
    let w = c.note_proposed.new.self in
    let q = w.question in
    let s = c.args.split in
    let bs = q.netlist.now in
    let p = asked c in
    let short : s.c + q.f + 1 ≤ most_frames = omega (arith, p.0, q.frames_few) in
    let fewer : q.n * (s.c + q.f + 1) ≤ q.n * (q.b + q.f + 1) = mul-le-mul_left q.n (omega (arith, p.0)) in
    let part : (l : List ℕ) → length l ≡ q.n * (q.b + q.f + 1) → length (take c.places-size.result l) ≡ q.n * (s.c + q.f + 1) =
    λ l e. length-take-le c.places-size.result l (omega (arith, fewer, e, c.places-size.ensures)) ∙ c.places-size.ensures in
    let full = part w.known.now w.of_window.0 in
    trial_says bs q.n (pin_count bs) q.sound_netlist q.fault q.f s _ q.fault_there short p.1 p.2
    (full ∙ ap (λ (x : ℕ). x * (s.c + q.f + 1)) (question_size q)) _ (part w.spare.now w.of_window.1 ∙ sym full) c.both_close.result _ _ c.both_close.ensures

-- it is the question that was asked
answer : (c : After-both_close) → c.both_close.result ≡ closing c.args.self.now.question c.args.split
answer c = (worked c).0 ∙ ap (λ (x : Question). closing x c.args.split) c.note_proposed.ensures

pub returns-then-both_close-clause-value : goal.returns-then-both_close-clause-value
returns-then-both_close-clause-value c = sym c.if-both_close.true ∙ answer (goal.at.returns-then-both_close-clause-value c).After-both_close

pub returns-clause-value : goal.returns-clause-value
returns-clause-value c = sym c.if-both_close.false ∙ answer (goal.at.returns-clause-value c).After-both_close

pub invariant_of-self-2-clause-stay_open : goal.invariant_of-self-2-clause-stay_open
invariant_of-self-2-clause-stay_open c =
    let w = c.note_proposed.new.self in
    let q = w.question in
    let s = c.args.split in
    let bs = q.netlist.now in
    let net = net_of bs in
    let here = (goal.at.invariant_of-self-2-clause-stay_open c).After-both_close in
    let p = asked here in
    let after = worked here in
    let stays = sym after.0 ∙ c.if-both_close.false in
    let last = last-kept net (sound-ordered bs q.n (pin_count bs) q.sound_netlist) q.fault q.f s p.2 p.1 stays in
    let values = c.both_close.new.known in
    let before = w.noted.now in
    let kept = subst (KeptOpen net q.fault q.f s.c) (sym after.1) last in
    let noted = notes_set net q.fault q.f s.c values before (noted_with values s.c before) kept (noted_places values s.c before) w.stay_open in
    subst (NotedStayOpen net q.fault q.f) (sym c.note_known.ensures) noted

-- The tests stand one after the other, in the order of their numbers. A netlist that is not sound is turned back with the reader's
-- number (`searching-unsound`). Where a test fails, it is the first that does (`searching-refused`). Where all have passed, the search
-- is made in parts of the two slices that have the size of the window of b (`searching-made`).
use Rattle.std.proofs.Common.{rules}
use lib.ListN.{drop, length, length-replicate, replicate}
use lib.Seq.{length-take-le}
use mathlib.Core.Bool.{true}
use mathlib.Core.List.{◌++◌}
use mathlib.Core.Path.{◌∙◌, ◌≡◌, ap, sym}
use native.Mathlib.Omega.{arith}
use Prim.Native.Nat.{ℕ, ◌+◌, ◌*◌, ◌≤◌}
use Rattle.certificate.proofs.RoomLaws.{slices_fit_lem}
use Rattle.certificate.specs.Certificate.{head_length}
use Rattle.certificate.specs.Inner.Room.{slices_number}
use Rattle.circuit.specs.Fault.{fault_exists}
use Rattle.knowledge.specs.Window.{most_frames}
use Rattle.search.proofs.SearchLaws.{says_found, searching-made, searching-refused, searching-unsound}
use Rattle.search.proofs.TestLaws.{all-passed, frames_given, frames_refused, no_fault, short-slices, too_wide, window-size}
use Rattle.netlist.proofs.NumberLaws.{number_some}
use Rattle.netlist.specs.Refusal.{number_of_refusal}
use Rattle.netlist.specs.Netlist.{net_of, reading, reading_says, sound}
use Rattle.search.specs.FinderCall.{FinderCall, finder_call, frames}
use Rattle.search.specs.Inner.Search.{at_split, search_outcome}
use Rattle.search.proofs.answer.first_split.Goals as goal
use Rattle.search.proofs.answer.first_split.Goals.{After-check_slices, Start}

-- what is asked
abbrev call : Start → FinderCall
call c = let a = c.args in finder_call a.netlist.now a.fault a.b a.f a.first.now a.second.now (replicate a.room 0)

-- behind the tests of the fault and of the window's frames, which have passed
record Passed (q : FinderCall) (n p w : ℕ) : Type 0 where
  netlist_sound : reading q.netlist ≡ sound n p
  exists : fault_exists (net_of q.netlist) q.fault ≡ true
  narrow : frames q ≤ most_frames
  size : n * w ≡ n * frames q

passed : (c : After-check_slices) → Passed (finder_call c.args.netlist.now c.args.fault c.args.b c.args.f c.args.first.now c.args.second.now (replicate c.args.room 0))
    c.in-Ok.size.nodes c.in-Ok.size.pins c.in_ok-frames.frames
passed c =
    let given = frames_given c.args.b c.args.f c.in_ok-frames.frames c.in_ok-frames.ensures in
    record {
      netlist_sound = sym c.in-Ok.ensures;
      exists = sym c.fault_exists.ensures ∙ c.if-not-fault_exists.false;
      narrow = given.1;
      size = ap (λ (x : ℕ). c.in-Ok.size.nodes * x) given.0;
    }

pub returns-in_default : goal.returns-in_default
returns-in_default c =
    let unsound = sym c.read-answer.ensures ∙ ap reading_says c.unwrap_err.ensures in
    sym (searching-unsound (call (goal.at.returns-in_default c).Start) _ unsound)

pub returns-then-not-fault_exists : goal.returns-then-not-fault_exists
returns-then-not-fault_exists c =
    let q = call (goal.at.returns-then-not-fault_exists c).Start in
    let s = sym c.in-Ok.ensures in
    let missing = sym c.fault_exists.ensures ∙ c.if-not-fault_exists.true in
    sym (searching-refused q 9 s (no_fault q c.in-Ok.size.nodes c.in-Ok.size.pins s missing))

pub returns-in_err-frames : goal.returns-in_err-frames
returns-in_err-frames c =
    let q = call (goal.at.returns-in_err-frames c).Start in
    let s = sym c.in-Ok.ensures in
    let exists = sym c.fault_exists.ensures ∙ c.if-not-fault_exists.false in
    let refused = frames_refused c.args.b c.args.f c.in_err-frames.field-0.0 c.in_err-frames.ensures in
    let number = ap number_of_refusal refused.0 in
    let said = sym (searching-refused q 10 s (too_wide q c.in-Ok.size.nodes c.in-Ok.size.pins s exists refused.1)) in
    search (rules, number, said)

pub returns-in_err-check_slices : goal.returns-in_err-check_slices
returns-in_err-check_slices c =
    let q = call (goal.at.returns-in_err-check_slices c).Start in
    let p = passed (goal.at.returns-in_err-check_slices c).After-check_slices in
    let r = c.in_err-check_slices.field-0.0 in
    let room = ap (slices_number (c.in-Ok.size.nodes * frames q) (length q.first) (length q.second)) (sym (length-replicate {A = ℕ} c.args.room 0)) in
    let number = c.in_err-check_slices.ensures ∙ ap (λ (x : ℕ). slices_number x (length q.first) (length q.second) c.args.room) p.size ∙ room in
    let short = short-slices q c.in-Ok.size.nodes c.in-Ok.size.pins p.netlist_sound p.exists p.narrow (number_of_refusal r) number (number_some r) in
    let said = sym (searching-refused q _ p.netlist_sound short) in
    search (rules, said)

pub returns : goal.returns
returns c =
    let q = call (goal.at.returns c).Start in
    let n = c.in-Ok.size.nodes in
    let p = passed (goal.at.returns c).After-check_slices in
    let hold = slices_fit_lem (n * c.in_ok-frames.frames) (length q.first) (length q.second) c.args.room (sym c.in_ok-check_slices.ensures) in
    let whole = p.size ∙ window-size q n c.in-Ok.size.pins p.netlist_sound in
    let j = c.search_window.ensures in
    let u = j.cleared.0 ∙ ap (λ (x : ℕ). replicate x 0) (length-take-le _ q.first hold.0 ∙ whole) in
    let v = j.cleared.1 ∙ ap (λ (x : ℕ). replicate x 0) (length-take-le _ q.second hold.1 ∙ whole) in
    let room : head_length + 14 * (n * frames q) ≤ length q.certificate = omega (arith, length-replicate {A = ℕ} c.args.room 0, hold.2, p.size) in
    let fits = all-passed q n c.in-Ok.size.pins p.netlist_sound p.exists p.narrow (omega (arith, hold.0, p.size)) (omega (arith, hold.1, p.size)) room in
    (λ i. search_outcome ((says_found _ ∙ ap at_split j.answer) i) (u i ++ drop (whole i) q.first) (v i ++ drop (whole i) q.second))
    ∙ sym (searching-made q p.netlist_sound fits)

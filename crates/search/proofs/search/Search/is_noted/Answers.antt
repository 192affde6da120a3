-- By what the notes say, since the split's place has the note of its c.
use Prim.Native.Nat.{ℕ, ◌*◌, ◌+◌}
use Rattle.std.proofs.Common.{rules}
use Rattle.std.specs.Prelude.{Some, true}
use mathlib.Core.Path.{◌∙◌, ◌≡◌, ap, sym}
use Rattle.search.proofs.QuestionLaws.{question_size}
use Rattle.splits.specs.Inner.NoteBytes.{note_in, note_of}
use Rattle.values.specs.Lists.{at}
use Rattle.search.proofs.search.Search.is_noted.Goals as goal

pub returns : goal.returns
returns c =
    let a = c.args in
    let q = a.self.now.question in
    let s = a.split in
    let w = c.requires in
    let place = c.place_of-place.ensures ∙ ap (λ (x : ℕ). s.frame * x + s.node) (question_size q) in
    let byte = ap (at a.self.now.noted.now) (sym place) ∙ sym c.byte_at.ensures in
    let said : c.eq.result ≡ true → c.noted_c.result ≡ Some s.c = search (rules) in
    λ e. a.self.now.stay_open s w.1 w.2 (ap note_in byte ∙ sym c.noted_c.ensures ∙ ap note_of (said e))

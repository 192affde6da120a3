use mathlib.Core.Path.{◌≡◌}
use lib.ListN.{length}
use Rattle.values.specs.Inner.Rewriting.{rewritten}
use Rattle.splits.specs.Inner.NoteBytes.{note_over}
use Rattle.splits.proofs.notes.note_known.Given as goal

-- the notes keep their length, and are those that were given, rewritten at all places below `place`
abbrev pub invariant-loop-place : goal.invariant-loop-place
invariant-loop-place l =
    (length l.noted ≡ length l.initial.noted) × (l.noted ≡ rewritten (note_over l.known l.c) l.place l.initial.noted)

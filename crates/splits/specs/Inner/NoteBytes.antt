-- The bytes of notes.
use Rattle.std.specs.Prelude.{cond, List, Option, None, Some, ◌%◌, ◌*◌, ◌+◌, ◌/◌, ℕ, ltb, length}
use Rattle.values.specs.Lists.{at}
use Rattle.values.specs.Inner.Rewriting.{rewritten}
use Rattle.knowledge.specs.Window.{most_frames}

-- The notes hold two things in a byte: a guessed value, in the two low bits, and above them the note, which is c + 1, or 0 for none.
abbrev pub note_in : ℕ → ℕ
note_in byte = byte / 4

abbrev pub guess_in : ℕ → ℕ
guess_in byte = byte % 4

-- the note of a place
abbrev pub note_at : List ℕ → ℕ → ℕ
note_at noted place = note_in (at noted place)

-- the note for a c that is noted, or for none
abbrev pub note_of : Option ℕ → ℕ
note_of None = 0
note_of (Some c) = c + 1

-- a byte with the note x in place of its own
abbrev pub with_note : ℕ → ℕ → ℕ
with_note byte x = guess_in byte + 4 * x

-- place p of notes after the set was noted, in the window of c: a new note where the set has a value, else the byte as it was
unfoldable pub note_over : List ℕ → ℕ → List ℕ → ℕ → ℕ
note_over values c noted p = cond (ltb (at values p) 2) (with_note (at noted p) (c + 1)) (at noted p)

-- The notes after each value of a set in the window of c was noted, by c + 1 at its place. For a c above 14 there is no window, and nothing
-- is noted.
unfoldable pub noted_with : List ℕ → ℕ → List ℕ → List ℕ
noted_with values c noted = cond (ltb c most_frames) (rewritten (note_over values c) (length values) noted) noted

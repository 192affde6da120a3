-- What a function that writes text promises: how long the text is, and what the slice then holds.
use Rattle.std.specs.Prelude.{List, ◌+◌, ℕ, length}
use Rattle.std.proofs.lemmas.List.Edits.{sets}

pub record Put : Type 0 where
  pub length : ℕ
  pub bytes : List ℕ

abbrev pub put : ℕ → List ℕ → Put
put n bs = record { length = n; bytes = bs }

-- the text us, from place a of a slice on; what has no room there is left out
abbrev pub put_at : List ℕ → ℕ → List ℕ → Put
put_at bs a us = put (length us) (sets bs a us)

-- a number of 32 bits has at most so many digits, and a field one byte more
abbrev pub number_length : ℕ
number_length = 10

abbrev pub field_length : ℕ
field_length = number_length + 1

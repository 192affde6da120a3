-- The slices that a window takes: two work slices, and one for its certificate.
use Rattle.std.specs.Prelude.{◌&&◌, cond, ◌*◌, ◌+◌, ℕ, leb}
use Rattle.certificate.specs.Certificate.{head_length}

-- the number of the refusal of a window of this size, in work slices of these lengths: 11 where one is too short, and 0 where both fit
abbrev pub work_slices_number : ℕ → ℕ → ℕ → ℕ
work_slices_number size v w = cond (leb size v && leb size w) 0 11

-- the number of the refusal of a window of this size, in slices of these lengths: 11 where one of the work slices is too short, 12 where
-- the certificate's is, and 0 where all fit
abbrev pub slices_number : ℕ → ℕ → ℕ → ℕ → ℕ
slices_number size v w x = cond (leb size v && leb size w) (cond (leb (head_length + 14 * size) x) 0 12) 11

-- Laws of the slices that a window takes.
use mathlib.Core.Path.{◌≡◌}
use Prim.Native.Nat.{◌*◌, ◌+◌, ◌-◌, ◌/◌, ◌<◌, ◌≤◌, ℕ}
use native.Mathlib.Omega.{arith}
use Rattle.certificate.specs.Certificate.{head_length}
use Rattle.certificate.specs.Inner.Room.{slices_number}

-- where it is 0, all three fit
pub slices_fit_lem : (size v w x : ℕ) → slices_number size v w x ≡ 0 → (size ≤ v) × (size ≤ w) × (head_length + 14 * size ≤ x)
slices_fit_lem size v w x e = grind arith

-- what divides to less than the size is too short, and no other room is
pub room_short : (size x : ℕ) → head_length ≤ x → (x - head_length) / 14 < size → x < head_length + 14 * size
room_short size x h l = omega arith

pub room_fits : (size x : ℕ) → head_length ≤ x → size ≤ (x - head_length) / 14 → head_length + 14 * size ≤ x
room_fits size x h l = omega arith

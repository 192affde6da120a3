-- What is known, as it lies in a work slice.
use Rattle.std.specs.Prelude.{Bool, cond, false, true, List, ◌≡◌, ◌*◌, ◌+◌, ◌<◌, suc, zero, ℕ, replicate, set}
use Rattle.values.specs.Lists.{at}
use Rattle.gates.specs.Value.{differ, is_unknown}
use Rattle.netlist.specs.Netlist.{Net}
use Rattle.circuit.specs.Fault.{StuckLines, lines_of}
use Rattle.circuit.specs.declared.fault.Fault.{Fault}
use Rattle.knowledge.specs.Window.{known}

-- What is known, as it lies in bytes: frame by frame, a byte for each of N nodes; a window of W frames takes N × W bytes. A place past
-- the end counts as known to be 0.
abbrev pub known_in : List ℕ → ℕ → ℕ → ℕ → ℕ
known_in bytes N n t = at bytes (t * N + n)

module _ (net : Net) (S : ℕ → StuckLines) where
  -- the bytes hold what is known in a window of W frames, where the values l were concluded
  unfoldable pub Holds : ℕ → List ℕ → List ℕ → Type 0
  Holds W l bytes = (n t : ℕ) → n < net.size → t < W → known_in bytes net.size n t ≡ known net S l n t

-- Entering a value at a place of a work slice, where a byte of 2 or more is unknown: whether that is a contradiction, and the bytes then.
pub record Entered : Type 0 where
  pub closed : Bool
  pub bytes : List ℕ

abbrev pub entered : Bool → List ℕ → Entered
entered closed bytes = record { closed = closed; bytes = bytes }

abbrev pub enter_at : List ℕ → ℕ → ℕ → Entered
enter_at bytes i v = cond (is_unknown (at bytes i)) (entered false (set bytes i v)) (entered true bytes)

-- The start of a branch in a work slice, in a circuit of N nodes: the faulted node is held in the first c frames. Where the fault is
-- at a pin no node is held, and 2 is stored: unknown, as before.
unfoldable pub hold_frames : ℕ → Fault → ℕ → List ℕ → List ℕ
hold_frames N f zero bytes = bytes
hold_frames N f (suc t) bytes = set (hold_frames N f t bytes) (t * N + f.node) ((lines_of f).node f.node)

-- the split's value enters, unless the byte at its place is opposite to it: that is a contradiction, and the byte stays
unfoldable pub begin_at : List ℕ → ℕ → ℕ → Entered
begin_at bytes i v = cond (differ (at bytes i) v) (entered true bytes) (entered false (set bytes i v))

-- Branch v of the split at node n and frame t begins in a slice of so many bytes, whatever stood in it. Where the slice is a window,
-- this is `begin`: HoldLaws.
unfoldable pub begin_in : ℕ → Fault → ℕ → ℕ → ℕ → ℕ → ℕ → Entered
begin_in N f c size n t v = begin_at (hold_frames N f c (replicate size 2)) (t * N + n) v

-- The notes of splits that stay open: what the contracts of the functions beneath `find` speak of. Nothing of what the finder answers
-- rests on it.
use Rattle.std.specs.Prelude.{false, List, ◌⊎◌, ◌≡◌, ◌*◌, ◌+◌, ◌<◌, ℕ}
use Rattle.values.specs.Lists.{at}
use Rattle.netlist.specs.Netlist.{Net}
use Rattle.circuit.specs.declared.fault.Fault.{Fault}
use Rattle.sweeps.specs.Splits.{split_closes}
use Rattle.splits.specs.Inner.NoteBytes.{note_at}
use Rattle.splits.specs.declared.split.Split.{Split}

-- A place of the notes after the values of a set in the window of c were noted: as it was, or with the note c + 1 where the set has a value.
unfoldable pub Noted : List ℕ → ℕ → List ℕ → List ℕ → ℕ → Type 0
Noted known c before after place = (at after place ≡ at before place) ⊎ ((note_at after place ≡ c + 1) × (at known place < 2))

-- what the notes say: a split whose place has the note of its c does not close
abbrev pub NotedStayOpen : Net → Fault → ℕ → List ℕ → Type 0
NotedStayOpen net f F noted =
    (s : Split) → s.frame < s.c + F + 1 → s.node < net.size → note_at noted (s.frame * net.size + s.node) ≡ s.c + 1 → split_closes net f F s ≡ false

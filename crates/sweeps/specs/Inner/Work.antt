-- The sweeps on lent bytes, calm frames, and sets of values that stay open: what the contracts of inner functions speak of. Nothing of
-- what the finder answers rests on it.
use Rattle.std.specs.Prelude.{Bool, false, not, true, List, [], ◌∷◌, ◌≡◌, ◌*◌, ◌+◌, ◌<◌, pred, ℕ, set}
use Rattle.std.proofs.lemmas.List.Edits.{sets}
use Rattle.values.specs.Lists.{at}
use Rattle.gates.specs.Value.{is_unknown}
use Rattle.circuit.specs.Fault.{StuckLines, lines_of}
use Rattle.netlist.specs.Netlist.{Net}
use Rattle.circuit.specs.declared.fault.Fault.{Fault}
use Rattle.trace.specs.Trace.{one_if}
use Rattle.knowledge.specs.Inner.Slice.{enter_at, known_in}
use Rattle.knowledge.specs.Window.{present_below}
use Rattle.certificate.specs.declared.step.Step.{Step}
use Rattle.splits.specs.Split.{split}
use Rattle.sweeps.specs.Splits.{split_closes}
use Rattle.sweeps.specs.Sweeps.{BranchState, sweep_frame}
use Rattle.certificate.specs.Written.{step_bytes}

-- a branch in lent bytes: what is known, the run of its steps as far as the slice has room, how many they are, and whether it is closed
pub record Work : Type 0 where
  pub known : List ℕ
  pub run : List ℕ
  pub steps : ℕ
  pub closed : Bool

abbrev pub work : List ℕ → List ℕ → ℕ → Bool → Work
work known run steps closed = record { known = known; run = run; steps = steps; closed = closed }

-- a step is entered and written; N: the number of nodes
unfoldable pub take_in : ℕ → Work → Step → Work
take_in N w s =
    let e = enter_at w.known (s.frame * N + s.node) s.value in
    work e.bytes (sets w.run (7 * w.steps) (step_bytes s)) (w.steps + 1) e.closed

abbrev pub in_bytes : ℕ → BranchState Work
in_bytes N = record { closed = λ w. w.closed; knows = λ w. known_in w.known N; takes = take_in N; made = λ w. w.steps }

-- how many places of a work slice are unknown
unfoldable pub unknowns : List ℕ → ℕ
unknowns [] = 0
unknowns (v ∷ vs) = one_if (is_unknown v) + unknowns vs

-- the steps made and those that may come: a place for each unknown value, and one more while the branch is open
unfoldable pub tally : Work → ℕ
tally w = w.steps + unknowns w.known + one_if (not w.closed)

-- Calm frames, a byte for each, 0 where nothing is said: the sweep of a calm frame changes nothing.
unfoldable pub CalmFrames : Net → (ℕ → StuckLines) → List ℕ → Work → Type 0
CalmFrames net S calm w = (t : ℕ) → 0 < at calm t → sweep_frame (in_bytes net.size) net S t w ≡ w

-- What is noted after frame t was swept: it is calm where it made no step; else neither it nor its neighbours are.
unfoldable pub frame_noted : List ℕ → ℕ → Bool → List ℕ
frame_noted calm t true = set calm t 1
frame_noted calm t false = set (set (set calm (pred t) 0) t 0) (t + 1) 0

-- the bytes have the values that the fault holds below frame c, in a circuit of N nodes
unfoldable pub HasHeld : ℕ → Fault → ℕ → List ℕ → Type 0
HasHeld N f c known = (n t : ℕ) → (present_below c (lines_of f) t).node n < 2 → (present_below c (lines_of f) t).node n ≡ known_in known N n t

-- where the bytes have a value, in the window of c, the split does not close
unfoldable pub KeptOpen : Net → Fault → ℕ → ℕ → List ℕ → Type 0
KeptOpen net f F c known = (m u : ℕ) → m < net.size → u < c + F + 1 → known_in known net.size m u < 2 → split_closes net f F (split c u m) ≡ false

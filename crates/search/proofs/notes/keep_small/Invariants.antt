use Prim.Native.Nat.{ℕ, ◌<◌}
use mathlib.Core.Path.{◌≡◌}
use lib.ListN.{length}
use Rattle.values.specs.Lists.{at}
use Rattle.search.proofs.notes.keep_small.Given as goal

abbrev pub invariant-loop-value : goal.invariant-loop-value
invariant-loop-value l = (length l.values ≡ length l.initial.values) × ((k : ℕ) → k < l.value-index → at l.values k < 4)

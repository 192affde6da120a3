use lib.ListN.{length}
use mathlib.Core.Path.{◌≡◌}
use Prim.Native.Nat.{ℕ, ◌<◌}
use Rattle.values.specs.Lists.{at}
use Rattle.search.proofs.random.Run.draw.Given as goal

abbrev pub invariant-loop-place : goal.invariant-loop-place
invariant-loop-place l = (length l.values ≡ length l.initial.values) × ((k : ℕ) → k < l.place → at l.values k < 2)

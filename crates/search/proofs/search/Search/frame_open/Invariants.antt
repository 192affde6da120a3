-- No split of the frame closes at a node that has been passed.
use Prim.Native.Nat.{ℕ, ◌<◌}
use mathlib.Core.Bool.{false}
use mathlib.Core.Path.{◌≡◌}
use Rattle.splits.specs.Split.{split}
use Rattle.search.specs.Inner.Asked.{closing}
use Rattle.search.proofs.search.Search.frame_open.Given as goal

abbrev pub invariant-loop-node : goal.invariant-loop-node
invariant-loop-node l =
    let q = l.initial.self.question in
    (l.self.question ≡ q) × ((m : ℕ) → m < l.node → closing q (split q.b l.frame m) ≡ false)

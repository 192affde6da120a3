-- No split closes in a frame that has been passed.
use Prim.Native.Nat.{ℕ, ◌<◌}
use mathlib.Core.Bool.{false}
use mathlib.Core.Path.{◌≡◌}
use Rattle.splits.specs.Split.{split}
use Rattle.search.specs.Inner.Asked.{closing}
use Rattle.search.proofs.search.Search.frames_open.Given as goal

abbrev pub invariant-loop-frame : goal.invariant-loop-frame
invariant-loop-frame l =
    let q = l.initial.self.question in
    (l.self.question ≡ q) × ((t m : ℕ) → t < l.frame → m < q.n → closing q (split q.b t m) ≡ false)

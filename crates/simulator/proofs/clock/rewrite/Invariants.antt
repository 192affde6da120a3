use Rattle.std.proofs.Common.{◌≡◌, ℕ, List}
use Rattle.values.specs.Inner.Rewriting.{rewritten}
use Rattle.simulator.proofs.clock.rewrite.Given as goal

abbrev pub invariant-loop-number : goal.invariant-loop-number
invariant-loop-number g l =
    (f : List ℕ → ℕ → ℕ) → ((s : _) (k r : ℕ) → goal.F-post g l.value s k r → r ≡ f s.now k) → l.bytes ≡ rewritten f l.number l.initial.bytes

-- No split before the present one closes (`Reached`). The measure is how many splits are left.
use Rattle.netlist.specs.Netlist.{net_of}
use Rattle.search.proofs.WalkLaws.{Reached, left}
use mathlib.Core.Path.{◌≡◌}
use Rattle.search.proofs.search.Search.walk_splits.Given as goal

abbrev pub invariant-loop-question : goal.invariant-loop-question
invariant-loop-question l =
    let q = l.question in
    Reached (net_of q.netlist.now) q.fault q.f q.b l.split × (l.self.question ≡ q)

abbrev pub decreases-loop-question : goal.decreases-loop-question
decreases-loop-question l = left l.question.b l.split

use mathlib.Core.Path.{◌≡◌}
use Rattle.netlist.specs.Netlist.{pair_joined, pair_start}
use Prim.Native.Nat.{◌≤◌}
use mathlib.Core.Bool.{true}
use Rattle.values.specs.Lists.{every}
use Rattle.netlist.proofs.reader.pairs_joined.Given as goal

abbrev pub invariant-loop-node : goal.invariant-loop-node
invariant-loop-node l = (l.node ≤ l.n) × (every (pair_joined l.netlist) l.node ≡ true) × (l.start ≡ pair_start l.netlist l.node)

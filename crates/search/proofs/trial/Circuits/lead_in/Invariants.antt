-- Where the circuits are alike for all the clocks that are to come, they still are for those that are left.
use Rattle.circuit.specs.Fault.{lines_of}
use Rattle.netlist.specs.Netlist.{net_of}
use Rattle.witness.specs.Inner.Alike.{AlikeFrom}
use Prim.Native.Nat.{◌-◌}
use mathlib.Core.Path.{◌≡◌}
use Rattle.search.proofs.trial.Circuits.lead_in.Given as goal

abbrev pub invariant-loop : goal.invariant-loop
invariant-loop l =
    let q = l.question in
    let net = net_of q.netlist.now in
    let lines = lines_of q.fault in
    (l.self.question ≡ q) ×
    (AlikeFrom net lines q.b l.initial.self.latched.now → AlikeFrom net lines (q.b - l.counter) l.self.latched.now)

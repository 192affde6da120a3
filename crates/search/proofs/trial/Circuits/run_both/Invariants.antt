-- Where the circuits are alike at first, they are at each clock.
use Rattle.circuit.specs.Fault.{lines_of}
use Rattle.netlist.specs.Netlist.{net_of}
use Rattle.witness.specs.Inner.Alike.{Alike}
use mathlib.Core.Path.{◌≡◌}
use Rattle.search.proofs.trial.Circuits.run_both.Given as goal

abbrev pub invariant-loop : goal.invariant-loop
invariant-loop l =
    let net = net_of l.question.netlist.now in
    let lines = lines_of l.question.fault in
    (l.self.question ≡ l.question) ×
    (Alike net lines l.initial.self.latched.now l.initial.self.good_latched.now → Alike net lines l.self.latched.now l.self.good_latched.now)

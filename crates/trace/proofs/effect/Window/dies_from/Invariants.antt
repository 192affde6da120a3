use Prim.Native.Nat.{◌-◌}
use mathlib.Core.Path.{◌≡◌}
use lib.ListN.{take}
use Rattle.circuit.specs.Fault.{lines_in, lines_of}
use Rattle.netlist.specs.Netlist.{net_of}
use Rattle.knowledge.specs.Inner.Slice.{known_in}
use Rattle.trace.specs.Trace.{effect_dies}
use Rattle.trace.proofs.effect.Window.dies_from.Given as goal

abbrev pub invariant-loop-t : goal.invariant-loop-t
invariant-loop-t l =
    let net = net_of l.self.netlist.now in
    let kn = known_in l.self.known.now net.size in
    effect_dies net kn l.self.f l.self.c (lines_of l.self.fault) (take net.size l.fn.touched) ≡ effect_dies net kn (l.last - l.t) l.t (lines_in l.circuit) l.now

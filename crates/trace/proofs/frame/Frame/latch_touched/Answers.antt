use native.Mathlib.Omega.{arith}
use mathlib.Core.Path.{◌∙◌, ◌≡◌, sym}
use Prim.Native.Nat.{◌≤◌}
use lib.ListN.{length}
use lib.Seq.{take_all}
use Rattle.netlist.specs.Netlist.{net_of}
use Rattle.circuit.specs.Fault.{lines_in}
use Rattle.values.specs.Lists.{at}
use Rattle.trace.proofs.TouchedLaws.{latched_filled}
use Rattle.trace.proofs.frame.Frame.latch_touched.Goals as goal

pub returns : goal.returns
unfolding net_of
returns c =
    let f = c.args.self.now in
    let l = c.loop-node-2 in
    let net = net_of f.netlist.now in
    let full : length l.touched ≡ net.size = l.invariant.0 ∙ sym c.requires.touched_length in
    let last : l.node ≡ net.size = omega (arith, c.node_count-n.ensures) in
    let short : length l.touched ≤ l.node = omega (arith, full, last) in
    let long : l.node ≤ length l.touched = omega (arith, full, last) in
    sym (take_all l.node l.touched short) ∙ latched_filled net (lines_in f.circuit) (at f.values.now) (at c.args.touched.now) l.node l.touched last long l.invariant.1

-- What a relation concludes, by its definition's two cases: of the output (`conclude_output`) and of a pin's source (`conclude_pin`). Both
-- want the relation's parts: the pins' frame, the number of nodes, the stuck lines in that frame, and the values, which are those of
-- the known slice from that frame's first place on.
use mathlib.Core.Path.{◌∙◌, ap}
use Rattle.values.specs.Lists.{at}
use Rattle.netlist.specs.Netlist.{net_of}
use Rattle.circuit.specs.Fault.{lines_of}
use Rattle.knowledge.specs.Window.{present_below}
use Rattle.knowledge.proofs.WindowLaws.{conclude_output, conclude_pin}
use Rattle.knowledge.proofs.relation.conclude.Goals as goal

pub returns-then-line-eq0 : goal.returns-then-line-eq0
unfolding net_of
returns-then-line-eq0 c =
    let a = c.args in
    let frame_is = c.pin_frame_of-pins_at.ensures in
    rw c.if-line-eq0.true
    (conclude_output (net_of a.netlist.now) (present_below a.c (lines_of a.fault)) a.known.now a.node a.frame _ _ _ _ _ frame_is c.node_count-n.ensures
    c.circuit_in-circuit.ensures c.place_of.ensures c.tail-values.ensures _ c.gate_value.ensures)

pub returns : goal.returns
unfolding net_of
returns c =
    let a = c.args in
    let frame_is = c.pin_frame_of-pins_at.ensures in
    let output = c.byte_at.ensures ∙ ap (at a.known.now) c.place_of-2.ensures in
    conclude_pin (net_of a.netlist.now) (present_below a.c (lines_of a.fault)) a.known.now a.node a.frame _ _ _ _ _ frame_is c.node_count-n.ensures
    c.circuit_in-circuit.ensures c.place_of.ensures c.tail-values.ensures a.line _ _ _ c.if-line-eq0.false c.pin_source.ensures output (c.unwrap_or.ensures ∙ c.conclusion.ensures)

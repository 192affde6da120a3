-- A relation that is not in force changes nothing. One in force tries the output's line first. Where the output is then unknown, nothing is
-- concluded of a pin, and the output's line is the whole. Else the pins follow, and both together are the definition's (`relation-pins`).
-- What `try_pins` asks is found: behind the output's line the tally is the same, the steps are as many or more, and where there are no
-- more the line would make none again (`settled-after`).
use mathlib.Core.Path.{◌∙◌, ap, sym}
use Rattle.netlist.specs.Netlist.{length_of}
use Rattle.sweeps.specs.Inner.Work.{Work}
use Rattle.sweeps.specs.Inner.Windows.{circuit_of, pins_of, stuck_lines, work_of}
use Rattle.netlist.proofs.NetlistLaws.{pins-length}
use Rattle.sweeps.proofs.WorkLaws.{relation-pins}
use Rattle.sweeps.proofs.sweep.Relation.conclude.Goals as goal

pub returns : goal.returns
returns c =
    let a = c.args in
    let s = a.self in
    let w = work_of a.known.now a.run.now a.progress in
    let in_force = sym c.in_force.ensures ∙ c.if-not-in_force.false in
    let m = length_of s.window.netlist.now s.node in
    let pins : (Work → Work) = pins_of s m in
    c.try_pins.ensures
    ∙ ap pins c.try_line-done.ensures
    ∙ relation-pins (circuit_of s.window) (stuck_lines s.window) s.node s.frame m w in_force (sym (pins-length s.window.netlist.now s.node))

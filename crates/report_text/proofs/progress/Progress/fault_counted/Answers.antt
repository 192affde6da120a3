use Rattle.std.proofs.Common.{◌∙◌, ap}
use Rattle.fault_list.proofs.WalkLaws.{next-sound}
use Rattle.fault_list.specs.Faults.{fault_after}
use Rattle.fault_list.specs.Inner.Walk.{listed}
use Rattle.netlist.specs.Netlist.{net_of}
use Rattle.report_text.proofs.StageLaws.{next_stage}
use Rattle.report_text.proofs.progress.Progress.fault_counted.Goals as goal

pub returns : goal.returns
returns c =
    let a = c.args in
    let net = net_of a.netlist.now in
    let next = c.listed_after.ensures ∙ ap (listed net) (next-sound a.netlist.now a.fault c.requires.netlist_sound c.requires.fault_exists) in
    rw (next_stage net (fault_after net a.fault) (rw next at c.map_or.ensures))

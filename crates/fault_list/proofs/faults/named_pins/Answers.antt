use Rattle.std.proofs.Common.{◌∙◌, sym}
use Rattle.netlist.specs.Netlist.{net_of}
use Rattle.netlist.proofs.NetlistLaws.{pins-length}
use Rattle.fault_list.proofs.WalkLaws.{named_count}
use Rattle.fault_list.proofs.faults.named_pins.Goals as goal

pub returns : goal.returns
returns c =
    let a = c.args in
    c.min.ensures ∙ named_count (net_of a.netlist.now) a.node c.length_of.result (c.length_of.ensures ∙ sym (pins-length a.netlist.now a.node))

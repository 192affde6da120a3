use Rattle.netlist.proofs.NetlistLaws.{pins-length}
use Rattle.fault_list.specs.Faults.{first_of}
use Rattle.fault_list.proofs.faults.first_of.Goals as goal

pub returns : goal.returns
unfolding first_of
returns c = let a = c.args in
    rw (pins-length a.netlist.now a.node, c.first_site-site.ensures, c.length_of.ensures)

use Rattle.std.proofs.Common.{arith, rules, ◌≡◌, ◌<◌}
use Rattle.fault_list.specs.Faults.{behind_site}
use Rattle.netlist.specs.Netlist.{net_of}
use Rattle.fault_list.proofs.WalkLaws.{named-few, first-named, next_behind}
use Rattle.fault_list.proofs.faults.fault_after.Goals as goal

pub site_after-next-requires : goal.site_after-next-requires
site_after-next-requires c = omega (arith, c.named_pins.ensures, named-few (net_of c.args.netlist.now) c.args.fault.node)

pub returns-in-Whole : goal.returns-in-Whole
unfolding behind_site net_of
returns-in-Whole c =
    let a = c.args in
    let net = net_of a.netlist.now in
    let h : a.fault.node < net.size = omega (arith, c.node_count.ensures, c.if-node_count-node.false) in
    let behind : (a.fault.stuck ≡ 0 → ⊥) = search rules in
    rw (next_behind net a.fault h behind, c.in-Whole.is, first-named, c.first_of.ensures)

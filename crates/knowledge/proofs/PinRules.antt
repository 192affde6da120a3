-- The laws with which proofs about a node's pins are searched.
use mathlib.Core.Path.{◌≡◌, sym}
use Prim.Native.Nat.{◌≤◌, ℕ}
use mathlib.Core.List.{List}
use native.Mathlib.Omega.{arith}
use lib.ListN.{get_or-eq_default}
use Rattle.values.specs.Lists.{at}
use Rattle.netlist.specs.Netlist.{length_of, net_of}
use Rattle.netlist.proofs.NetlistLaws.{pins-at, pins-length}

-- past a node's pins there is no source
pub pins_past : (bs : List ℕ) (n k : ℕ) → length_of bs n ≤ k → 0 ≡ at ((net_of bs).pins n) k
pins_past bs n k h = sym (get_or-eq_default ((net_of bs).pins n) 0 (omega (arith, h, pins-length bs n)))

pub ruleset pin_laws = (pins-at, pins-length)

-- those with which a source is found, past the pins too
pub ruleset pin_rules = (pins-at, pins_past)

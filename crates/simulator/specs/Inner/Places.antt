-- The two halves of a clock step, on a slice of any length and for any number of nodes. Each node's seen value is put into its place, by
-- rising number, from what the places then hold; each node's latched value is put into its place. In a sound circuit and a slice with a
-- place for each node these are `seen_list` and `latched_list` (`settled_seen`, `latched_into_lem` of ClockLaws).
use Rattle.std.specs.Prelude.{List, ℕ}
use Rattle.values.specs.Lists.{at}
use Rattle.values.specs.Inner.Rewriting.{rewritten}
use Rattle.netlist.specs.Netlist.{Net}
use Rattle.simulator.specs.Clock.{latched_by, seen_by}
use Rattle.circuit.specs.Fault.{StuckLines}

module _ (net : Net) (s : StuckLines) where
  unfoldable pub settled : ℕ → List ℕ → List ℕ
  settled n l = rewritten (λ e. seen_by net s (at e) (at e)) n l

  unfoldable pub latched_into : (ℕ → ℕ) → ℕ → List ℕ → List ℕ
  latched_into v n l = rewritten (λ _. latched_by net s v) n l

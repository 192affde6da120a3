-- Clocks of a circuit in two slices of any length, whatever they hold. In a sound circuit, and slices with a place for each node, they are
-- the clocks of ClockLists (`clocked-sound` of WitnessLaws).
use Rattle.std.specs.Prelude.{Bool, ◌&&◌, not, List, ℕ, eqb}
use Rattle.std.proofs.lemmas.List.Edits.{sets}
use Rattle.gates.specs.Kind.{is_output}
use Rattle.values.specs.Lists.{any, at}
use Rattle.values.specs.Inner.Rewriting.{rewritten}
use Rattle.simulator.specs.Inner.Places.{latched_into, settled}
use Rattle.simulator.specs.ClockLists.{clock_start}
use Rattle.circuit.specs.Fault.{StuckLines, none_stuck}
use Rattle.netlist.specs.Netlist.{Net}

-- what a circuit's two slices hold: a clock's inputs, and then its seen values; and what is latched
pub record Held : Type 0 where
  pub values : List ℕ
  pub latched : List ℕ

abbrev pub holding : List ℕ → List ℕ → Held
holding values latched = record { values = values; latched = latched }

-- what a clock step is given, for the first n nodes: the latched value l at a flip-flop's place, elsewhere what stands there
unfoldable pub started : Net → List ℕ → ℕ → List ℕ → List ℕ
started net l n values = rewritten (λ e. clock_start net e l) n values

-- one clock: it is given its values, the nodes settle, and the flip-flops latch
unfoldable pub clocked : Net → StuckLines → Held → Held
clocked net s h =
    let seen = settled net s net.size (started net h.latched net.size h.values) in
    holding seen (latched_into net s (at seen) net.size h.latched)

-- node n is an output, and has not the same value in both lists
unfoldable pub output_differs : Net → List ℕ → List ℕ → ℕ → Bool
output_differs net v w n = is_output (net.kind n) && not (eqb (at v n) (at w n))

-- what the slices of the faulty and of the good circuit hold, and whether an output differs
pub record Compared : Type 0 where
  pub differs : Bool
  pub faulty : Held
  pub good : Held

abbrev pub compared : Bool → Held → Held → Compared
compared differs faulty good = record { differs = differs; faulty = faulty; good = good }

-- both circuits take a clock: the good one with the faulty one's inputs, as far as its slice has room for them
unfoldable pub both_step : Net → StuckLines → Held → Held → Compared
both_step net s f g =
    let faulty = clocked net s f in
    let good = clocked net none_stuck (holding (sets g.values 0 f.values) g.latched) in
    compared (any (output_differs net faulty.values good.values) net.size) faulty good

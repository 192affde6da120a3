-- Worked clock steps, computed by the checker of proofs.
use mathlib.Core.List.{[], ◌∷◌}
use mathlib.Core.Path.{◌≡◌, refl}
use Prim.Native.Nat.{ℕ}
use Rattle.netlist.specs.Answer.{answered, outcome}
use Rattle.simulator.specs.Clock.{SimulatorCall, latched_by, latched_list, pin_values, place_fits, seen_by, seen_list, simulation, slices_fit, clock_step, clock_refused}
use Rattle.circuit.specs.Fault.{circuit_exists, fault_exists, lines_in, lines_of}
use Rattle.gates.specs.Kind.{gate, rule_of}
use Rattle.values.specs.Lists.{build, every}
use Rattle.netlist.specs.Netlist.{count_fits, kind_known, net_of, pair_joined, pair_start, pins_of, reading, sizes_allowed, source_allowed, source_of, sources_allowed}
use Rattle.circuit.specs.declared.fault.Circuit.{Circuit}
use Rattle.circuit.specs.declared.fault.Circuit.TheVariants.{Faulty, Good}
use Rattle.circuit.specs.declared.fault.Site.{Site}
use Rattle.circuit.specs.declared.fault.Site.TheVariants.{Pin, Whole}
use Rattle.netlist.proofs.Vectors.{p1}

-- P1 with the input and the latched values of b and c; the places of the other nodes are not read
abbrev p1-clock : Circuit → ℕ → ℕ → ℕ → SimulatorCall
p1-clock x a b c = record { netlist = p1; circuit = x; first = a ∷ b ∷ c ∷ 9 ∷ 9 ∷ 9 ∷ []; second = 7 ∷ 7 ∷ 7 ∷ 7 ∷ 7 ∷ 7 ∷ [] }

abbrev stuck-at_1 : ℕ → Site → Circuit
stuck-at_1 n s = Faulty (record { node = n; site = s; stuck = 1 })

-- one clock step of P1
pub record Steps : Type 0 where
  -- both flip-flops latch the input
  pub good : simulation (p1-clock Good 1 1 0) ≡ outcome (answered []) (1 ∷ 1 ∷ 0 ∷ 0 ∷ 0 ∷ 0 ∷ []) (0 ∷ 1 ∷ 1 ∷ 0 ∷ 0 ∷ 0 ∷ [])
  -- pin 1 of the AND stuck at 1: c is seen as 0 by node 5, and as 1 by the AND alone
  pub stuck-pin : simulation (p1-clock (stuck-at_1 3 (Pin 1)) 1 1 0) ≡ outcome (answered []) (1 ∷ 1 ∷ 0 ∷ 1 ∷ 1 ∷ 0 ∷ []) (0 ∷ 1 ∷ 1 ∷ 0 ∷ 0 ∷ 0 ∷ [])
  -- c itself stuck at 1: it is seen as 1 and latches what its pin reads
  pub stuck_node : simulation (p1-clock (stuck-at_1 2 Whole) 0 1 0) ≡ outcome (answered []) (0 ∷ 1 ∷ 1 ∷ 1 ∷ 1 ∷ 1 ∷ []) (0 ∷ 0 ∷ 0 ∷ 0 ∷ 0 ∷ 0 ∷ [])
  -- c's pin stuck at 1: c is seen as before and latches 1
  pub stuck_latch : simulation (p1-clock (stuck-at_1 2 (Pin 0)) 0 1 0) ≡ outcome (answered []) (0 ∷ 1 ∷ 0 ∷ 0 ∷ 0 ∷ 0 ∷ []) (0 ∷ 0 ∷ 1 ∷ 0 ∷ 0 ∷ 0 ∷ [])
  pub pin_of_input : simulation (p1-clock (stuck-at_1 0 (Pin 0)) 1 1 0) ≡ clock_refused 9 (p1-clock (stuck-at_1 0 (Pin 0)) 1 1 0)
  pub input_2 : simulation (p1-clock Good 2 1 0) ≡ clock_refused 16 (p1-clock Good 2 1 0)

pub steps : Steps
unfolding reading sizes_allowed every kind_known pair_joined pair_start count_fits rule_of sources_allowed source_allowed source_of
    simulation circuit_exists fault_exists slices_fit place_fits clock_step lines_in lines_of net_of pins_of build seen_list seen_by pin_values gate latched_list latched_by
steps = record { good = refl; stuck-pin = refl; stuck_node = refl; stuck_latch = refl; pin_of_input = refl; input_2 = refl }

-- 01, "Clock step": seen values, latched values, and what the simulator answers and leaves in its two slices.
use Rattle.std.specs.Prelude.{Bool, ◌&&◌, ◌||◌, cond, not, List, [], ◌∷◌, ℕ, eqb, leb, length, Result, Ok, Err}
use Rattle.std.proofs.Math.Option.{none, some}
use Rattle.netlist.specs.Answer.{Answer, Outcome, Test, answered, outcome, refusal, refused}
use Rattle.circuit.specs.Fault.{StuckLines, circuit_exists, lines_in}
use Rattle.gates.specs.Kind.{gate, is_flip_flop, is_given}
use Rattle.values.specs.Lists.{at, build, every, indexed, table}
use Rattle.netlist.specs.Netlist.{Net, net_of, reading}
use Rattle.gates.specs.Value.{stuck_or}
use Rattle.netlist.specs.Refusal.{number_of_refusal}
use Rattle.netlist.specs.declared.refusal.Refusal.{Refusal}
use Rattle.circuit.specs.declared.fault.Circuit.{Circuit}

module _ (net : Net) (s : StuckLines) where
  -- A pin reads its source's seen value, or u if faulted. v gives the nodes' seen values.
  unfoldable pub pin_values : (ℕ → ℕ) → ℕ → List ℕ
  pin_values v n = indexed (λ k m. stuck_or (s.pin n k) (v m)) 0 (net.pins n)

  -- A node's seen value is u if the node is faulted. Otherwise it is the input, the latched value, its pin or its gate's function
  -- of the pins. `given` has inputs and latched values at their nodes; v gives the seen values of the pins' sources.
  unfoldable pub seen_by : (ℕ → ℕ) → (ℕ → ℕ) → ℕ → ℕ
  seen_by given v n = stuck_or (s.node n) (cond (is_given (net.kind n)) (given n) (gate (net.kind n) (pin_values v n)))

  -- the seen values of all nodes, by rising node number: a gate's sources have smaller numbers
  unfoldable pub seen_list : (ℕ → ℕ) → List ℕ
  seen_list given = build (λ l n. seen_by given (at l) n) net.size

  -- What a flip-flop's pin reads is latched for the next clock; 0 at other nodes.
  unfoldable pub latched_by : (ℕ → ℕ) → ℕ → ℕ
  latched_by v n = cond (is_flip_flop (net.kind n)) (at (pin_values v n) 0) 0

  unfoldable pub latched_list : (ℕ → ℕ) → List ℕ
  latched_list v = table (latched_by v) net.size

-- what the simulator is given: a netlist, the good circuit or one with a fault, and two slices
pub record SimulatorCall : Type 0 where
  pub netlist : List ℕ
  pub circuit : Circuit
  pub first : List ℕ
  pub second : List ℕ

abbrev pub simulator_call : List ℕ → Circuit → List ℕ → List ℕ → SimulatorCall
simulator_call netlist circuit first second = record { netlist = netlist; circuit = circuit; first = first; second = second }

-- refusal 16: the places of all inputs and flip-flops are read, and a place that is read holds 0 or 1
unfoldable pub place_fits : Net → List ℕ → ℕ → Bool
place_fits net first n = not (is_given (net.kind n)) || leb (at first n) 1

unfoldable pub slices_fit : Net → List ℕ → List ℕ → Bool
slices_fit net first second = eqb (length first) net.size && (eqb (length second) net.size && every (place_fits net first) net.size)

abbrev pub simulator_tests : List (Test SimulatorCall)
simulator_tests =
    record { number = 9; passes = λ a. circuit_exists (net_of a.netlist) a.circuit }
    ∷ record { number = 16; passes = λ a. slices_fit (net_of a.netlist) a.first a.second }
    ∷ []

-- the answer done
abbrev pub done : Answer
done = answered []

-- a refusal alters nothing
abbrev pub clock_refused : ℕ → SimulatorCall → Outcome
clock_refused k a = outcome (refused k) a.first a.second

-- done: the first slice holds the seen values, the second the newly latched ones
unfoldable pub clock_step : SimulatorCall → Outcome
clock_step a =
    let net = net_of a.netlist in
    let s = lines_in a.circuit in
    let seen = seen_list net s (at a.first) in
    outcome done seen (latched_list net s (at seen))

-- what the simulator answers, and leaves in its slices
unfoldable pub simulation : SimulatorCall → Outcome
simulation a =
    elim (reading a.netlist) [
      | refused k ↦ clock_refused k a
      | answered _ ↦ elim (refusal simulator_tests a) [ some k ↦ clock_refused k a | none ↦ clock_step a ]
    ]

-- the cases of the simulator's answer, in 01's terms
abbrev pub stepped_says : Result (Unit {0}) Refusal → Answer
stepped_says (Ok tt) = done
stepped_says (Err refusal) = refused (number_of_refusal refusal)

-- 01, "Knowledge": what is known in a window of frames, the relation of a node at a frame, and what it concludes.
use Rattle.std.specs.Prelude.{Bool, ◌&&◌, cond, false, not, true, List, [], ◌++◌, ◌∷◌, ◌*◌, ◌+◌, pred, suc, zero, ℕ, get_or, replicate, set}
use Rattle.simulator.specs.Clock.{pin_values}
use Rattle.circuit.specs.Fault.{StuckLines, none_stuck}
use Rattle.gates.specs.Kind.{controlling, gate, is_flip_flop, is_given, is_input, rule_of}
use Rattle.values.specs.Lists.{at}
use Rattle.netlist.specs.Netlist.{Net}
use Rattle.gates.specs.Value.{differ, is_unknown, neg, stuck_or}
use Rattle.certificate.specs.declared.step.Step.{Step}

-- the most frames of a window
abbrev pub most_frames : ℕ
most_frames = 15

-- The fault is present in frames below c and absent from c on.
abbrev pub present_below : ℕ → StuckLines → ℕ → StuckLines
present_below zero f t = none_stuck
present_below (suc c) f zero = f
present_below (suc c) f (suc t) = present_below c f t

-- Inputs, and flip-flops at frame 0, have no relation.
abbrev pub has_relation : ℕ → ℕ → Bool
has_relation k zero = not (is_given k)
has_relation k (suc t) = not (is_input k)

-- the frame of the pins in a relation: a flip-flop's value at frame t equals its pin at t - 1
abbrev pub pin_frame : ℕ → ℕ → ℕ
pin_frame k t = cond (is_flip_flop k) (pred t) t

-- The lines of node n's relation at frame t: line 0 is its output, line k + 1 its pin k, which is known by its source.
module _ (net : Net) where
  abbrev pub line_node : ℕ → ℕ → ℕ
  line_node n zero = n
  line_node n (suc k) = at (net.pins n) k

  abbrev pub line_frame : ℕ → ℕ → ℕ → ℕ
  line_frame n t zero = t
  line_frame n t (suc k) = pin_frame (net.kind n) t

-- Conclusions of the relation of node n. s has the stuck lines in the frame of the pins, v what is known there (2 for unknown).
module _ (net : Net) (s : StuckLines) (v : ℕ → ℕ) where
  -- the output's value: what the gate makes of the pins, where that is settled
  unfoldable pub output_conclusion : ℕ → ℕ
  output_conclusion n = gate (net.kind n) (pin_values net s v n)

  -- the value of pin k's source, where the output is known to be o: the value whose opposite would make the output another.
  -- Nothing is concluded of its source through a stuck pin. RelationLaws shows that these are 01's sentences, kind by kind.
  unfoldable pub pin_conclusion : ℕ → ℕ → ℕ → ℕ
  pin_conclusion n o k =
      let vs = pin_values net s v n in
      let w = controlling (rule_of (net.kind n)).gate in
      elim (is_unknown (s.pin n k) && differ (gate (net.kind n) (set vs k w)) o) [
        | true ↦ neg w
        | false ↦ elim (is_unknown (s.pin n k) && differ (gate (net.kind n) (set vs k (neg w))) o) [ true ↦ w | false ↦ 2 ]
      ]

-- the split's value (unless it is opposite to a held one) and those concluded so far (frame by frame, 2 for unknown), the steps made,
-- and whether a contradiction was met
pub record Branch : Type 0 where
  pub values : List ℕ
  pub steps : List Step
  pub closed : Bool

-- S: the stuck lines of each frame
module _ (net : Net) (S : ℕ → StuckLines) where
  -- a faulted node is held at u from the start; 2 where nothing is held
  unfoldable pub held : ℕ → ℕ → ℕ
  held n t = (S t).node n

  -- what is known of node n at frame t: a held value, or a concluded one
  unfoldable pub known : List ℕ → ℕ → ℕ → ℕ
  known l n t = stuck_or (held n t) (get_or l (t * net.size + n) 2)

  -- the relation of node n at frame t is there, and something may be concluded through it: not that of a held node
  unfoldable pub in_force : ℕ → ℕ → Bool
  in_force n t = is_unknown (held n t) && has_relation (net.kind n) t

  -- What the relation of n at t concludes of its line a, from what is known (kn, by node and frame): a value of 2 or more says nothing.
  -- It has a meaning where the relation is in force and the node has that line.
  unfoldable pub conclusion : (ℕ → ℕ → ℕ) → ℕ → ℕ → ℕ → Step
  conclusion kn n t zero =
      let p = pin_frame (net.kind n) t in
      record { node = line_node net n zero; frame = line_frame net n t zero; value = output_conclusion net (S p) (λ m. kn m p) n; via = n; during = t }
  conclusion kn n t (suc k) =
      let p = pin_frame (net.kind n) t in
      record { node = line_node net n (suc k); frame = line_frame net n t (suc k); value = pin_conclusion net (S p) (λ m. kn m p) n (kn n t) k; via = n; during = t }

  -- Each new value is a step. A conclusion opposite to a known value is the last step and closes the branch. That it is not the same as
  -- the known value is seen to before: `follows` in Checker, `says_nothing` in Sweeps.
  unfoldable pub enter : Branch → Step → Branch
  enter b s =
      elim (is_unknown (known b.values s.node s.frame)) [
        | true ↦ record { values = set b.values (s.frame * net.size + s.node) s.value; steps = b.steps ++ (s ∷ []); closed = false }
        | false ↦ record { values = b.values; steps = b.steps ++ (s ∷ []); closed = true }
      ]

  -- Branch v of the split at node n and frame t of a window of W frames knows that the split has value v.
  -- A split opposite to a held value is itself a contradiction and closes the branch with no step.
  unfoldable pub begin : ℕ → ℕ → ℕ → ℕ → Branch
  begin W n t v =
      elim (differ (known [] n t) v) [
        | true ↦ record { values = replicate (net.size * W) 2; steps = []; closed = true }
        | false ↦ record { values = set (replicate (net.size * W) 2) (t * net.size + n) v; steps = []; closed = false }
      ]

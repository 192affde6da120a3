-- 01, "Effect trace": which lines may show the fault's effect, frame by frame from c on.
use Rattle.std.specs.Prelude.{Bool, ◌&&◌, ◌||◌, cond, false, not, true, List, [], ◌++◌, ◌∷◌, suc, zero, ℕ, eqb, drop, replicate}
use Rattle.circuit.specs.Fault.{StuckLines, none_stuck}
use Rattle.gates.specs.Kind.{gate, is_flip_flop, is_given, is_output}
use Rattle.values.specs.Lists.{at, build, every, indexed, table}
use Rattle.netlist.specs.Netlist.{Net}
use Rattle.gates.specs.Value.{is_unknown}

-- 1 where something holds, such as that a line is touched, and 0 where not
abbrev pub one_if : Bool → ℕ
one_if true = 1
one_if false = 0

abbrev pub some_touched : List ℕ → Bool
some_touched [] = false
some_touched (zero ∷ ms) = some_touched ms
some_touched (suc m ∷ ms) = true

-- a faulted line at frame c is touched unless known to be u there; any other as `otherwise` says. u is 2 or more where the line is not faulted.
abbrev pub site_touched : ℕ → ℕ → ℕ → ℕ
site_touched u v otherwise = cond (is_unknown u) otherwise (one_if (not (eqb v u)))

-- the value of an untouched pin; a touched one counts as unknown
abbrev pub untouched_value : ℕ → ℕ → ℕ
untouched_value zero v = v
untouched_value (suc m) v = 2

-- One frame. D has the faulted lines at frame c, and none from c + 1 on; v what is known in the frame.
module _ (net : Net) (D : StuckLines) (v : ℕ → ℕ) where
  -- A faulted pin at frame c is touched unless its source is known to be u; any other pin is touched if its source is. ms says which nodes
  -- are touched.
  unfoldable pub pin_touched : (ℕ → ℕ) → ℕ → ℕ → ℕ → ℕ
  pin_touched ms n k m = site_touched (D.pin n k) (v m) (ms m)

  -- which of a node's pins are touched, and their values, a touched one's unknown
  abbrev pub pins_touched : (ℕ → ℕ) → ℕ → List ℕ
  pins_touched ms n = indexed (pin_touched ms n) 0 (net.pins n)

  abbrev pub untouched_values : (ℕ → ℕ) → ℕ → List ℕ
  untouched_values ms n = indexed (λ k m. untouched_value (pin_touched ms n k m) (v m)) 0 (net.pins n)

  -- A node with a touched pin is touched unless its untouched pins settle its value: an untouched pin known 0 at an AND or NAND,
  -- known 1 at an OR or NOR. TraceLaws shows that these are 01's sentences, kind by kind.
  unfoldable pub gate_touched : (ℕ → ℕ) → ℕ → ℕ
  gate_touched ms n = elim (some_touched (pins_touched ms n)) [ true ↦ one_if (is_unknown (gate (net.kind n) (untouched_values ms n))) | false ↦ 0 ]

  -- a flip-flop is touched one frame later than its pin: latched says which flip-flops are, in this frame
  unfoldable pub node_touched : (ℕ → ℕ) → (ℕ → ℕ) → ℕ → ℕ
  node_touched latched ms n = site_touched (D.node n) (v n) (cond (is_given (net.kind n)) (cond (is_flip_flop (net.kind n)) (latched n) 0) (gate_touched ms n))

  -- which nodes are touched, by rising node number
  unfoldable pub touched_list : (ℕ → ℕ) → List ℕ
  touched_list latched = build (λ l n. node_touched latched (at l) n) net.size

  -- which flip-flops' pins are touched: these flip-flops are touched in the next frame
  unfoldable pub latched_touched : (ℕ → ℕ) → ℕ → ℕ
  latched_touched ms n = cond (is_flip_flop (net.kind n)) (one_if (some_touched (pins_touched ms n))) 0

  unfoldable pub latched_touched_list : (ℕ → ℕ) → List ℕ
  latched_touched_list ms = table (latched_touched ms) net.size

abbrev pub output_untouched : Net → List ℕ → ℕ → Bool
output_untouched net l n = not (is_output (net.kind n)) || eqb (at l n) 0

abbrev pub latched_untouched : List ℕ → ℕ → Bool
latched_untouched l n = eqb (at l n) 0

-- No output is touched in frame t and the r frames after it, and no flip-flop's pin in the last. kn has what is known, by node and frame.
unfoldable pub effect_dies : Net → (ℕ → ℕ → ℕ) → ℕ → ℕ → StuckLines → List ℕ → Bool
effect_dies net kn zero t D latched =
    let l = touched_list net D (λ n. kn n t) (at latched) in
    every (output_untouched net l) net.size && every (latched_untouched (latched_touched_list net D (λ n. kn n t) (at l))) net.size
effect_dies net kn (suc r) t D latched =
    let l = touched_list net D (λ n. kn n t) (at latched) in
    every (output_untouched net l) net.size && effect_dies net kn r (suc t) none_stuck (latched_touched_list net D (λ n. kn n t) (at l))

-- the first k bytes 0, the others as they were
abbrev pub cleared : ℕ → List ℕ → List ℕ
cleared k l = replicate k 0 ++ drop k l

-- 01, "Kind", with the pin limit of 02, request 1: what each kind number decides. Pin limits and gate functions stand here, once.
use Rattle.std.specs.Prelude.{Bool, ◌||◌, false, true, List, [], ◌∷◌, Option, None, Some, Result, Ok, Err, map, ℕ, eqb, leb, get_or}
use Rattle.gates.specs.Value.{and₂, neg, or₂, xor₂}
use Rattle.gates.specs.declared.kind.Gate.{Gate}
use Rattle.gates.specs.declared.kind.Gate.TheVariants.{And, Or, Wire, Xor}
use Rattle.gates.specs.declared.kind.Kind.{Kind}
use Rattle.gates.specs.declared.kind.Kind.TheVariants as kind
use Rattle.gates.specs.declared.kind.Rule.{Rule}
use Rattle.gates.specs.declared.kind.UnknownKind.{UnknownKind}

-- the most pins of an AND, NAND, OR or NOR
abbrev pub most_pins : ℕ
most_pins = 64

-- the greatest kind number
abbrev pub last_kind : ℕ
last_kind = 10

-- the kinds, in the order of their numbers from 0 on
abbrev pub kinds : List Kind
kinds =
    kind.Input ∷ kind.Output ∷ kind.FlipFlop ∷ kind.Buffer ∷ kind.Not ∷ kind.And ∷ kind.Nand ∷ kind.Or ∷ kind.Nor ∷ kind.Xor ∷ kind.Xnor ∷ []

-- the kind that a number names, or that it names none
unfoldable pub kind_named : ℕ → Result Kind UnknownKind
kind_named k = get_or (map Ok kinds) k (Err (record { 0 = k }))

-- the number of a kind
abbrev pub number_of : Kind → ℕ
number_of kind.Input = 0
number_of kind.Output = 1
number_of kind.FlipFlop = 2
number_of kind.Buffer = 3
number_of kind.Not = 4
number_of kind.And = 5
number_of kind.Nand = 6
number_of kind.Or = 7
number_of kind.Nor = 8
number_of kind.Xor = 9
number_of kind.Xnor = 10

abbrev pub rule : ℕ → ℕ → Gate → Bool → Rule
rule l m g i = record { least = l; most = m; gate = g; inverted = i }

-- the fewest pins, the most pins, the function of the pins, and whether its value is inverted, where an AND, NAND, OR or NOR
-- has so many pins at most
abbrev pub rules_up_to : ℕ → List Rule
rules_up_to most =
    rule 0 0 Wire false  -- 0 input
    ∷ rule 1 1 Wire false  -- 1 output
    ∷ rule 1 1 Wire false  -- 2 flip-flop
    ∷ rule 1 1 Wire false  -- 3 buffer
    ∷ rule 1 1 Wire true  -- 4 NOT
    ∷ rule 2 most And false  -- 5 AND
    ∷ rule 2 most And true  -- 6 NAND
    ∷ rule 2 most Or false  -- 7 OR
    ∷ rule 2 most Or true  -- 8 NOR
    ∷ rule 2 2 Xor false  -- 9 XOR
    ∷ rule 2 2 Xor true  -- 10 XNOR
    ∷ []

abbrev pub rules : List Rule
rules = rules_up_to most_pins

-- the rule of kind k in such a table; a number past its end is no kind, and no pin count fits it
abbrev pub rule_in : List Rule → ℕ → Rule
rule_in rs k = get_or rs k (rule 1 0 Wire false)

unfoldable pub rule_of : ℕ → Rule
rule_of k = rule_in rules k

-- the function of no pins, and of a first pin's value v where w is the function of the rest
abbrev pub unit_of : Gate → ℕ
unit_of Wire = 0
unit_of And = 1
unit_of Or = 0
unit_of Xor = 0

abbrev pub join_of : Gate → ℕ → ℕ → ℕ
join_of Wire v w = v
join_of And v w = and₂ v w
join_of Or v w = or₂ v w
join_of Xor v w = xor₂ v w

-- the function of any number of pins
abbrev pub function_of : Gate → List ℕ → ℕ
function_of g [] = unit_of g
function_of g (v ∷ vs) = join_of g v (function_of g vs)

-- the pin value that settles an AND or an OR by itself (for the others a value like any other)
abbrev pub controlling : Gate → ℕ
controlling Wire = 0
controlling And = 0
controlling Or = 1
controlling Xor = 0

-- the same, and none for the others
abbrev pub controlling_of : Gate → Option ℕ
controlling_of Wire = None
controlling_of And = Some 0
controlling_of Or = Some 1
controlling_of Xor = None

abbrev pub inverted_if : Bool → ℕ → ℕ
inverted_if true v = neg v
inverted_if false v = v

-- the value that a node of kind k makes of its pins' values
unfoldable pub gate : ℕ → List ℕ → ℕ
gate k vs = inverted_if (rule_of k).inverted (function_of (rule_of k).gate vs)

abbrev pub is_kind : ℕ → Bool
is_kind k = leb k last_kind

abbrev pub is_input : ℕ → Bool
is_input k = eqb k 0

abbrev pub is_output : ℕ → Bool
is_output k = eqb k 1

abbrev pub is_flip_flop : ℕ → Bool
is_flip_flop k = eqb k 2

-- the clock step is given the value of such a node: an input, or a flip-flop's latched value
abbrev pub is_given : ℕ → Bool
is_given k = is_input k || is_flip_flop k

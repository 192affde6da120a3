-- 01, "Netlist": what the bytes of a netlist say, and what the reader answers. Bytes past the end count as 0.
use Rattle.std.specs.Prelude.{Bool, ◌&&◌, cond, not, List, [], ◌∷◌, Result, Ok, Err, ◌*◌, ◌+◌, suc, zero, ℕ, eqb, leb, ltb, length}
use Rattle.std.proofs.Math.Option.{none, some}
use Rattle.netlist.specs.Answer.{Answer, Test, answered, refusal, refused}
use Rattle.gates.specs.Kind.{is_flip_flop, is_kind, is_output, rule_of}
use Rattle.values.specs.Lists.{at, every, table, u16_at}
use Rattle.netlist.specs.Refusal.{number_of_refusal}
use Rattle.netlist.specs.declared.reader.Size.{Size}
use Rattle.netlist.specs.declared.refusal.Refusal.{Refusal}

-- a circuit: nodes 0 to size - 1, each with its kind and the sources of its pins in order
pub record Net : Type 0 where
  pub size : ℕ
  pub kind : ℕ → ℕ
  pub pins : ℕ → List ℕ

-- the most nodes, and the most pins of all nodes together
abbrev pub most_nodes : ℕ
most_nodes = 4096

abbrev pub most_pins_in_all : ℕ
most_pins_in_all = 16384

unfoldable pub sizes_allowed : ℕ → ℕ → Bool
sizes_allowed n p = ltb 0 n && (leb n most_nodes && leb p most_pins_in_all)

module _ (bs : List ℕ) where
  -- N and P
  abbrev pub node_count : ℕ
  node_count = u16_at bs 0

  abbrev pub pin_count : ℕ
  pin_count = u16_at bs 2

  -- the record of node n: its kind, and its pair of offset and length, counted in pins
  abbrev pub kind_of : ℕ → ℕ
  kind_of n = at bs (4 + 5 * n)

  abbrev pub offset_of : ℕ → ℕ
  offset_of n = u16_at bs (5 + 5 * n)

  abbrev pub length_of : ℕ → ℕ
  length_of n = u16_at bs (7 + 5 * n)

  -- the source of pin k of node n
  unfoldable pub source_of : ℕ → ℕ → ℕ
  source_of n k = u16_at bs (4 + 5 * node_count + 2 * (offset_of n + k))

  unfoldable pub pins_of : ℕ → List ℕ
  pins_of n = table (source_of n) (length_of n)

  -- the circuit that the bytes describe
  unfoldable pub net_of : Net
  net_of = record { size = node_count; kind = kind_of; pins = pins_of }

  -- where the pair of node n has to start: the first at 0, each next one at the sum of the offset and length before it.
  -- At n = N this is where the last pair ends.
  unfoldable pub pair_start : ℕ → ℕ
  pair_start zero = 0
  pair_start (suc n) = offset_of n + length_of n

  unfoldable pub kind_known : ℕ → Bool
  kind_known n = is_kind (kind_of n)

  unfoldable pub pair_joined : ℕ → Bool
  pair_joined n = eqb (offset_of n) (pair_start n)

  unfoldable pub count_fits : ℕ → Bool
  count_fits n = leb (rule_of (kind_of n)).least (length_of n) && leb (length_of n) (rule_of (kind_of n)).most

  -- No pin names an output node. A flip-flop's pin names any node, another node's pin a smaller number.
  unfoldable pub source_allowed : ℕ → ℕ → Bool
  source_allowed n k = ltb (source_of n k) (cond (is_flip_flop (kind_of n)) node_count n) && not (is_output (kind_of (source_of n k)))

  unfoldable pub sources_allowed : ℕ → Bool
  sources_allowed n = every (source_allowed n) (length_of n)

-- 01, "Turned back", 1 to 7
abbrev pub reader_tests : List (Test (List ℕ))
reader_tests =
    record { number = 1; passes = λ bs. leb 4 (length bs) }
    ∷ record { number = 2; passes = λ bs. sizes_allowed (node_count bs) (pin_count bs) }
    ∷ record { number = 3; passes = λ bs. eqb (length bs) (4 + 5 * node_count bs + 2 * pin_count bs) }
    ∷ record { number = 4; passes = λ bs. every (kind_known bs) (node_count bs) }
    ∷ record { number = 5; passes = λ bs. every (pair_joined bs) (node_count bs) && eqb (pair_start bs (node_count bs)) (pin_count bs) }
    ∷ record { number = 6; passes = λ bs. every (count_fits bs) (node_count bs) }
    ∷ record { number = 7; passes = λ bs. every (sources_allowed bs) (node_count bs) }
    ∷ []

-- sound, with N and P
abbrev pub sound : ℕ → ℕ → Answer
sound n p = answered (n ∷ p ∷ [])

-- what the reader answers of these bytes
unfoldable pub reading : List ℕ → Answer
reading bs = elim (refusal reader_tests bs) [ none ↦ sound (node_count bs) (pin_count bs) | some k ↦ refused k ]

-- the cases of the reader's answer, in 01's terms
abbrev pub reading_says : Result Size Refusal → Answer
reading_says (Ok size) = sound size.nodes size.pins
reading_says (Err refusal) = refused (number_of_refusal refusal)

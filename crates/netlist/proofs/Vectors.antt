-- Worked netlists, and what the reader answers to them, computed by the checker of proofs.
use mathlib.Core.List.{List, [], ◌∷◌}
use mathlib.Core.Path.{◌≡◌, refl}
use Prim.Native.Nat.{◌*◌, ℕ}
use lib.ListN.{replicate}
use Rattle.netlist.specs.Answer.{refused}
use Rattle.gates.specs.Kind.{rule_of}
use Rattle.values.specs.Lists.{every}
use Rattle.netlist.specs.Netlist.{count_fits, kind_known, pair_joined, pair_start, reading, sizes_allowed, sound, source_allowed, source_of, sources_allowed}

-- P1: a; flip-flops b(a), c(a); AND(b, c); outputs of nodes 3 and 2
abbrev pub p1 : List ℕ
p1 =
    6 ∷ 0 ∷ 6 ∷ 0
    ∷ 0 ∷ 0 ∷ 0 ∷ 0 ∷ 0
    ∷ 2 ∷ 0 ∷ 0 ∷ 1 ∷ 0
    ∷ 2 ∷ 1 ∷ 0 ∷ 1 ∷ 0
    ∷ 5 ∷ 2 ∷ 0 ∷ 2 ∷ 0
    ∷ 1 ∷ 4 ∷ 0 ∷ 1 ∷ 0
    ∷ 1 ∷ 5 ∷ 0 ∷ 1 ∷ 0
    ∷ 0 ∷ 0 ∷ 0 ∷ 0 ∷ 1 ∷ 0 ∷ 2 ∷ 0 ∷ 3 ∷ 0 ∷ 2 ∷ 0 ∷ []

-- P3 to P5: an AND of one input twice, and its output
abbrev pub p3 : List ℕ
p3 =
    3 ∷ 0 ∷ 3 ∷ 0
    ∷ 0 ∷ 0 ∷ 0 ∷ 0 ∷ 0
    ∷ 5 ∷ 0 ∷ 0 ∷ 2 ∷ 0
    ∷ 1 ∷ 2 ∷ 0 ∷ 1 ∷ 0
    ∷ 0 ∷ 0 ∷ 0 ∷ 0 ∷ 1 ∷ 0 ∷ []

-- P6, P7: a flip-flop fed by itself, alone
abbrev pub p6 : List ℕ
p6 = 1 ∷ 0 ∷ 1 ∷ 0 ∷ 2 ∷ 0 ∷ 0 ∷ 1 ∷ 0 ∷ 0 ∷ 0 ∷ []

-- P9: an AND of m pins, all on one input
abbrev pub p9 : ℕ → List ℕ
p9 m = 2 ∷ 0 ∷ m ∷ 0 ∷ 0 ∷ 0 ∷ 0 ∷ 0 ∷ 0 ∷ 5 ∷ 0 ∷ 0 ∷ m ∷ 0 ∷ replicate (2 * m) 0

-- what the reader answers, to sound netlists, to the examples of 01's table of refusals, and to pin counts of 02, request 1
pub record Readings : Type 0 where
  pub flip_flops : reading p1 ≡ sound 6 6
  pub one_input_twice : reading p3 ≡ sound 3 3
  pub own_source : reading p6 ≡ sound 1 1
  pub widest : reading (p9 64) ≡ sound 2 64
  pub three_bytes : reading (1 ∷ 0 ∷ 0 ∷ []) ≡ refused 1
  pub no_nodes : reading (0 ∷ 0 ∷ 0 ∷ 0 ∷ []) ≡ refused 2
  pub nodes_4097 : reading (1 ∷ 16 ∷ 0 ∷ 0 ∷ []) ≡ refused 2
  pub ten_bytes : reading (1 ∷ 0 ∷ 0 ∷ 0 ∷ 0 ∷ 0 ∷ 0 ∷ 0 ∷ 0 ∷ 0 ∷ []) ≡ refused 3
  -- kind 11 and, at the next node, a pair that is not joined
  pub kind_11 : reading (2 ∷ 0 ∷ 0 ∷ 0 ∷ 11 ∷ 0 ∷ 0 ∷ 0 ∷ 0 ∷ 0 ∷ 1 ∷ 0 ∷ 0 ∷ 0 ∷ []) ≡ refused 4
  pub first_offset_1 : reading (1 ∷ 0 ∷ 0 ∷ 0 ∷ 0 ∷ 1 ∷ 0 ∷ 0 ∷ 0 ∷ []) ≡ refused 5
  pub too_wide : reading (p9 65) ≡ refused 6
  -- an AND of 264 pins: the low byte of their number, 8, does not count by itself
  pub low_byte_8 : reading (2 ∷ 0 ∷ 8 ∷ 1 ∷ 0 ∷ 0 ∷ 0 ∷ 0 ∷ 0 ∷ 5 ∷ 0 ∷ 0 ∷ 8 ∷ 1 ∷ replicate 528 0) ≡ refused 6
  pub xor_of_three : reading (2 ∷ 0 ∷ 3 ∷ 0 ∷ 0 ∷ 0 ∷ 0 ∷ 0 ∷ 0 ∷ 9 ∷ 0 ∷ 0 ∷ 3 ∷ 0 ∷ 0 ∷ 0 ∷ 0 ∷ 0 ∷ 0 ∷ 0 ∷ []) ≡ refused 6
  -- two inputs, and node 2 a NOT of node 2
  pub not_of_itself : reading (3 ∷ 0 ∷ 1 ∷ 0 ∷ 0 ∷ 0 ∷ 0 ∷ 0 ∷ 0 ∷ 0 ∷ 0 ∷ 0 ∷ 0 ∷ 0 ∷ 4 ∷ 0 ∷ 0 ∷ 1 ∷ 0 ∷ 2 ∷ 0 ∷ []) ≡ refused 7

pub readings : Readings
unfolding reading sizes_allowed every kind_known pair_joined pair_start count_fits rule_of sources_allowed source_allowed source_of
readings =
    record {
      flip_flops = refl;
      one_input_twice = refl;
      own_source = refl;
      widest = refl;
      three_bytes = refl;
      no_nodes = refl;
      nodes_4097 = refl;
      ten_bytes = refl;
      kind_11 = refl;
      first_offset_1 = refl;
      too_wide = refl;
      low_byte_8 = refl;
      xor_of_three = refl;
      not_of_itself = refl;
    }

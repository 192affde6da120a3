-- 02, request 1, "Netlists that were sound before get the answers they had": what a greater pin limit changes of the kinds' rules. Each
-- kind takes the pin counts that it took, and what it makes of its pins' values does not depend on the limit.
use mathlib.Core.Bool.{Bool, ◌&&◌, true}
use mathlib.Core.List.{List, [], ◌∷◌}
use mathlib.Core.Path.{◌≡◌, refl}
use Prim.Native.Nat.{◌≤◌, suc, zero, ℕ}
use native.Mathlib.Nat.{le_refl, le_trans}
use native.Mathlib.Omega.{arith}
use lib.Dec.{leb}
use borrow.Author.Tests.{le-leb, leb-true}
use Rattle.values.proofs.BoolLaws.{and_left, and_right}
use Rattle.gates.specs.Kind.{function_of, gate, inverted_if, most_pins, rule, rule_in, rule_of, rules, rules_up_to}
use Rattle.gates.specs.declared.kind.Gate.{Gate}
use Rattle.gates.specs.declared.kind.Rule.{Rule}

-- the same rule, but that it may allow more pins
pub record Widened (r s : Rule) : Type 0 where
  pub least_same : s.least ≡ r.least
  pub most_more : r.most ≤ s.most
  pub gate_same : s.gate ≡ r.gate
  pub inverted_same : s.inverted ≡ r.inverted

module _ (l m : ℕ) (h : l ≤ m) where
  -- the same table, but that the rows with the limit l have m
  data Table : List Rule → List Rule → Type 0 where
    end : Table [] []
    kept : {r : Rule} {rs ss : List Rule} → Table rs ss → Table (r ∷ rs) (r ∷ ss)
    wider : {g : Gate} {i : Bool} {rs ss : List Rule} → Table rs ss → Table (rule 2 l g i ∷ rs) (rule 2 m g i ∷ ss)

  row_of : {rs ss : List Rule} → Table rs ss → (k : ℕ) → Widened (rule_in rs k) (rule_in ss k)
  row_of end k = record { least_same = refl; most_more = le_refl _; gate_same = refl; inverted_same = refl }
  row_of (kept t) zero = record { least_same = refl; most_more = le_refl _; gate_same = refl; inverted_same = refl }
  row_of (wider t) zero = record { least_same = refl; most_more = h; gate_same = refl; inverted_same = refl }
  row_of (kept t) (suc k) = row_of t k
  row_of (wider t) (suc k) = row_of t k

  -- with a greater limit the rule of each kind is the same, but that it may allow more pins
  pub rule_widened : (k : ℕ) → Widened (rule_in (rules_up_to l) k) (rule_in (rules_up_to m) k)
  rule_widened = row_of (kept (kept (kept (kept (kept (wider (wider (wider (wider (kept (kept end)))))))))))

-- so many pins fit a rule
abbrev pub fits : Rule → ℕ → Bool
fits r c = leb r.least c && leb c r.most

-- the limit of 01
abbrev pub most_before : ℕ
most_before = 8

-- a pin count that 01 allows for a kind is allowed
pub allowed-before : (k c : ℕ) → fits (rule_in (rules_up_to most_before) k) c ≡ true → fits (rule_of k) c ≡ true
unfolding rule_of
allowed-before k c e = rw (le-leb s.least c low, le-leb c s.most high)
  where
    r : Rule
    r = rule_in (rules_up_to most_before) k

    s : Rule
    s = rule_in rules k

    w : Widened r s
    w = rule_widened most_before most_pins (omega arith) k

    low : s.least ≤ c
    low = rw w.least_same (leb-true r.least c (and_left (leb r.least c) (leb c r.most) e))

    high : c ≤ s.most
    high = le_trans (leb-true c r.most (and_right (leb r.least c) (leb c r.most) e)) w.most_more

-- and what a kind makes of its pins' values is what it made of them
pub gate-before : (k : ℕ) (vs : List ℕ) → let r = rule_in (rules_up_to most_before) k in gate k vs ≡ inverted_if r.inverted (function_of r.gate vs)
unfolding gate rule_of
gate-before k vs = let w = rule_widened most_before most_pins (omega arith) k in rw (w.gate_same, w.inverted_same)

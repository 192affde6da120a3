-- 02, request 1, "Netlists that were sound before get the answers they had": a netlist that is sound with the pin limit of 01 is sound.
-- What its gates make of their pins' values has not moved either (`gate-before` of `gates`). That no other definition reads the limit
-- is not said here: none cites it, which a test looks for in the sources.
use mathlib.Core.Bool.{Bool, false, true}
use mathlib.Core.List.{List, map}
use mathlib.Core.Option.{none}
use mathlib.Core.Path.{◌≡◌, sym}
use Prim.Native.Nat.{◌<◌, ℕ}
use lib.Dec.{eqb}
use Rattle.gates.proofs.LimitLaws.{allowed-before, fits, most_before}
use Rattle.gates.specs.Kind.{rule_in, rules_up_to}
use Rattle.values.proofs.ListLaws.{every-at, every-by}
use Rattle.values.specs.Lists.{every}
use Rattle.netlist.proofs.NetlistLaws.{read_sound}
use Rattle.netlist.proofs.RefusalLaws.{Passed, refusal_none}
use Rattle.netlist.specs.Answer.{Test, refusal}
use Rattle.netlist.specs.Netlist.{count_fits, kind_of, length_of, node_count, pin_count, reader_tests, reading, sound}

-- the test of pin counts, with the limit of 01
abbrev fitted_before : List ℕ → ℕ → Bool
fitted_before bs n = fits (rule_in (rules_up_to most_before) (kind_of bs n)) (length_of bs n)

-- the reader's tests, with that one in the place of test 6
abbrev pub tests_before : List (Test (List ℕ))
tests_before = map before reader_tests
  where
    before : Test (List ℕ) → Test (List ℕ)
    before t = elim (eqb t.number 6) [ true ↦ record { number = 6; passes = λ bs. every (fitted_before bs) (node_count bs) } | false ↦ t ]

module _ (bs : List ℕ) (t : Passed tests_before bs) where
  -- test 6 passes
  count-passes : (i : ℕ) → i < node_count bs → count_fits bs i ≡ true
  unfolding count_fits
  count-passes i h = allowed-before (kind_of bs i) (length_of bs i) (every-at (fitted_before bs) (node_count bs) t.1.1.1.1.1.0 i h)

  passed-before : Passed reader_tests bs
  passed-before =
      (t.0, (t.1.0, (t.1.1.0, (t.1.1.1.0, (t.1.1.1.1.0, (every-by (count_fits bs) (node_count bs) count-passes, t.1.1.1.1.1.1))))))

-- where no test of 01 refuses a netlist, it is sound
pub sound-before : (bs : List ℕ) → refusal tests_before bs ≡ none → reading bs ≡ sound (node_count bs) (pin_count bs)
sound-before bs e = sym (read_sound bs (passed-before bs (refusal_none tests_before bs e)))

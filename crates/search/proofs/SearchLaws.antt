-- Laws of the search's answer: which refusal is given, when the splits are searched, and what a split that is answered says.
use Rattle.std.specs.Prelude.{None, Ok, Some}
use Rattle.std.specs.Prelude as code
use mathlib.Core.List.{List}
use mathlib.Core.Option.{Option, none, some}
use mathlib.Core.Path.{◌∙◌, ◌≡◌, ap, refl}
use Prim.Native.Nat.{ℕ}
use native.Mathlib.Omega.{arith}
use Rattle.netlist.proofs.RefusalLaws.{FirstFails, Passed, refusal_at, refusal_by, refusal_none}
use Rattle.netlist.proofs.SoundLaws.{answered-sound}
use Rattle.netlist.specs.Answer.{Answer, answered, refusal, refused}
use Rattle.netlist.specs.Netlist.{net_of, node_count, pin_count, reading, sound}
use Rattle.trace.specs.Trace.{cleared}
use Rattle.search.proofs.FirstLaws.{split_some}
use Rattle.search.specs.FinderCall.{FinderCall, finder_tests, largest_window}
use Rattle.search.specs.FirstSplit.{IsFirst, first_split}
use Rattle.search.specs.Inner.Search.{SearchOutcome, at_split, found, search_made, search_outcome, searched_says, searching, split_at, unsearched}
use Rattle.splits.specs.declared.split.Split.{Split}

-- a split that is answered: the netlist is sound, all tests pass, it is the first that closes, and the first work slice is cleared
pub record SplitFound (a : FinderCall) (s : Split) (v : List ℕ) : Type 0 where
  pub sound_netlist : reading a.netlist ≡ sound (node_count a.netlist) (pin_count a.netlist)
  pub passed : Passed finder_tests a
  pub is_first : IsFirst (net_of a.netlist) a.fault a.b a.f s
  pub first_cleared : v ≡ cleared (largest_window a) a.first

module _ (a : FinderCall) where
  abbrev tested : Option ℕ → SearchOutcome
  tested r = elim r [ some k ↦ unsearched k a | none ↦ search_made a ]

  abbrev read-then : Answer → SearchOutcome
  read-then r = elim r [ refused k ↦ unsearched k a | answered _ ↦ tested (refusal finder_tests a) ]

  -- a netlist that the reader refuses
  pub searching-unsound : (k : ℕ) → reading a.netlist ≡ refused k → searching a ≡ unsearched k a
  unfolding searching
  searching-unsound k e = ap read-then e

  -- a test that fails
  pub searching-refused : {vs : List ℕ} (k : ℕ) → reading a.netlist ≡ answered vs → FirstFails a k finder_tests → searching a ≡ unsearched k a
  unfolding searching
  searching-refused k e f = ap read-then e ∙ ap tested (refusal_at finder_tests a k f)

  -- all tests pass
  pub searching-made : {vs : List ℕ} → reading a.netlist ≡ answered vs → Passed finder_tests a → searching a ≡ search_made a
  unfolding searching
  searching-made e t = ap read-then e ∙ ap tested (refusal_by finder_tests a t)

  -- an answered split is the first that closes
  pub answered-split : (s : Split) (v w : List ℕ) → search_outcome (split_at s) v w ≡ searching a → SplitFound a s v
  unfolding searching
  answered-split s v w e = by-reading (reading a.netlist) refl e
    where
      first : Option Split
      first = first_split (net_of a.netlist) a.fault a.b a.f

      -- it is no refusal
      not_refused : (k : ℕ) → search_outcome (split_at s) v w ≡ unsearched k a → ⊥
      not_refused k e = let q = ap (λ (o : SearchOutcome). o.answer) e in let z : ◌≡◌ {A = ℕ} 0 1 = cc in omega arith

      is_split : (x : Option Split) → split_at s ≡ at_split x → x ≡ some s
      is_split none e = absurd (let z : ◌≡◌ {A = ℕ} 0 1 = cc in omega arith)
      is_split (some r) e = cc

      by-test : reading a.netlist ≡ sound (node_count a.netlist) (pin_count a.netlist) → (r : Option ℕ) → refusal finder_tests a ≡ r
          → search_outcome (split_at s) v w ≡ tested r → SplitFound a s v
      by-test q (some k) z e = absurd (not_refused k e)
      by-test q none z e =
          record {
            sound_netlist = q;
            passed = refusal_none finder_tests a z;
            is_first = split_some (net_of a.netlist) a.fault a.f a.b s (is_split first (ap (λ (o : SearchOutcome). o.answer) e));
            first_cleared = ap (λ (o : SearchOutcome). o.first) e;
          }

      by-reading : (r : Answer) → reading a.netlist ≡ r → search_outcome (split_at s) v w ≡ read-then r → SplitFound a s v
      by-reading (refused k) q e = absurd (not_refused k e)
      by-reading (answered vs) q e = by-test (answered-sound a.netlist vs q) (refusal finder_tests a) refl e

-- the code's answer without a refusal, in the words of the definition
pub says_found : (r : code.Option Split) → searched_says (Ok r) ≡ at_split (found r)
says_found None = refl
says_found (Some s) = refl

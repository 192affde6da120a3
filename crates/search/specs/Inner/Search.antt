-- What the search for a split answers, and leaves in the work slices: the finder without its certificate.
use Rattle.std.specs.Prelude.{Err, List, None, Ok, Result, Some, ℕ}
use Rattle.std.specs.Prelude as code
use Rattle.std.proofs.Math.Option.{Option, none, some}
use Rattle.netlist.specs.Answer.{answered, refusal, refused}
use Rattle.netlist.specs.Netlist.{net_of, reading}
use Rattle.trace.specs.Trace.{cleared}
use Rattle.search.specs.FinderCall.{FinderCall, finder_tests, largest_window}
use Rattle.search.specs.FirstSplit.{first_split}
use Rattle.netlist.specs.Refusal.{number_of_refusal}
use Rattle.netlist.specs.declared.refusal.Refusal.{Refusal}
use Rattle.splits.specs.declared.split.Split.{Split}

-- the split that was found, that none was, or the refusal's number
pub data Searched : Type 0 where
  split_at : Split → Searched
  no_split : Searched
  turned_back : ℕ → Searched

-- the cases of the code's answer
abbrev pub searched_says : Result (code.Option Split) Refusal → Searched
searched_says (Ok (Some s)) = split_at s
searched_says (Ok None) = no_split
searched_says (Err refusal) = turned_back (number_of_refusal refusal)

-- the answer, and what the two work slices then hold
pub record SearchOutcome : Type 0 where
  pub answer : Searched
  pub first : List ℕ
  pub second : List ℕ

abbrev pub search_outcome : Searched → List ℕ → List ℕ → SearchOutcome
search_outcome r v w = record { answer = r; first = v; second = w }

-- what the code finds, in the words of the definitions
abbrev pub found : code.Option Split → Option Split
found None = none
found (Some s) = some s

-- the answer for the split that was found or none
abbrev pub at_split : Option Split → Searched
at_split (some s) = split_at s
at_split none = no_split

-- A refusal alters nothing.
abbrev pub unsearched : ℕ → FinderCall → SearchOutcome
unsearched k a = search_outcome (turned_back k) a.first a.second

-- Else the first split that closes is the answer, or none, and the first N × W bytes of both slices are 0.
abbrev pub search_made : FinderCall → SearchOutcome
search_made a =
    search_outcome (at_split (first_split (net_of a.netlist) a.fault a.b a.f)) (cleared (largest_window a) a.first) (cleared (largest_window a) a.second)

-- what the search answers, and leaves in the work slices
unfoldable pub searching : FinderCall → SearchOutcome
searching a =
    elim (reading a.netlist) [
      | refused k ↦ unsearched k a
      | answered _ ↦ elim (refusal finder_tests a) [ some k ↦ unsearched k a | none ↦ search_made a ]
    ]

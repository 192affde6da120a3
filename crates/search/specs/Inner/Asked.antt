-- What the contracts of the search's steps say of the question that is asked.
use Rattle.std.specs.Prelude.{Bool, List, length, ◌≡◌, ◌*◌, ◌+◌, ℕ}
use Rattle.std.proofs.Math.Option.{Option}
use Rattle.netlist.specs.Netlist.{net_of}
use Rattle.search.specs.FirstSplit.{Within, first_split}
use Rattle.search.specs.Inner.Notes.{NotedStayOpen}
use Rattle.search.specs.declared.question.Question.{Question}
use Rattle.splits.specs.declared.split.Split.{Split}
use Rattle.sweeps.specs.Splits.{split_closes}

-- whether both branches of a split close
abbrev pub closing : Question → Split → Bool
closing q s = split_closes (net_of q.netlist.now) q.fault q.f s

-- the first split that closes
abbrev pub first_closing : Question → Option Split
first_closing q = first_split (net_of q.netlist.now) q.fault q.b q.f

-- a split that is asked for
abbrev pub Asked : Question → Split → Type 0
Asked q s = Within (net_of q.netlist.now) q.b q.f s

-- the places of the window of c
abbrev pub places : Question → ℕ → ℕ
places q c = q.n * (c + q.f + 1)

-- two work slices of its size
abbrev pub OfWindow : Question → ℕ → List ℕ → List ℕ → Type 0
OfWindow q c known spare = (length known ≡ places q c) × (length spare ≡ places q c)

-- what is noted stays open
abbrev pub StayOpen : Question → List ℕ → Type 0
StayOpen q noted = NotedStayOpen (net_of q.netlist.now) q.fault q.f noted

-- Faults and answers as the numbers that a C program passes and gets.
use Rattle.std.specs.Prelude.{cond, List, [], ◌∷◌, ◌*◌, ◌+◌, ℕ, eqb}
use Rattle.netlist.specs.Answer.{Answer, Outcome, answered, refused}
use Rattle.values.specs.Lists.{at}
use Rattle.circuit.specs.Fault.{fault, site_of}
use Rattle.circuit.specs.declared.fault.Circuit.{Circuit}
use Rattle.circuit.specs.declared.fault.Fault.{Fault}
use Rattle.finder.specs.Finder.{FinderOutcome}

-- a fault; site 255 is the node itself
abbrev pub site_fault : ℕ → ℕ → ℕ → Fault
site_fault node site u = fault node (site_of site) u

-- faulted 0 means no fault
abbrev pub circuit_of : ℕ → ℕ → ℕ → ℕ → Circuit
circuit_of faulted node site u = cond (eqb faulted 0) Circuit.Good (Circuit.Faulty (site_fault node site u))

-- the reader's answer: the refusal's number, or 2^32 + 65,536 × N + P for a sound netlist
abbrev pub read_number : Answer → ℕ
read_number (refused k) = k
read_number (answered vs) = 4294967296 + 65536 * at vs 0 + at vs 1

-- the checker's answer: the refusal's number, or 2^32 + c for accepted with c
abbrev pub check_number : Answer → ℕ
check_number (refused k) = k
check_number (answered vs) = 4294967296 + at vs 0

-- the finder's answer: 0 for none, the refusal's number, or 2^32 × (c + 1) + length for found with c and the certificate's length
abbrev pub find_number : Answer → ℕ
find_number (refused k) = k
find_number (answered []) = 0
find_number (answered (c ∷ vs)) = 4294967296 * (c + 1) + at vs 0

-- what a call of the simulator or of the checker leaves: the number of its answer, and the bytes of both slices
pub record NumberedOutcome : Type 0 where
  pub number : ℕ
  pub first : List ℕ
  pub second : List ℕ

abbrev pub numbered_outcome : ℕ → List ℕ → List ℕ → NumberedOutcome
numbered_outcome r v w = record { number = r; first = v; second = w }

abbrev pub numbered_by : (Answer → ℕ) → Outcome → NumberedOutcome
numbered_by number o = numbered_outcome (number o.answer) o.first o.second

-- what a call of the finder leaves: the number of its answer, and the bytes of the three slices
pub record NumberedFinding : Type 0 where
  pub number : ℕ
  pub first : List ℕ
  pub second : List ℕ
  pub certificate : List ℕ

abbrev pub numbered_finding : ℕ → List ℕ → List ℕ → List ℕ → NumberedFinding
numbered_finding r v w x = record { number = r; first = v; second = w; certificate = x }

abbrev pub numbered_finder : FinderOutcome → NumberedFinding
numbered_finder o = numbered_finding (find_number o.answer) o.first o.second o.certificate

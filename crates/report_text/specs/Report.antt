-- 01, "Report program": what is printed, for any standard input.
use Rattle.std.specs.Prelude.{ℕ, ◌+◌, ◌*◌, true, false, List, [], ◌∷◌, ◌++◌, length, drop, nat_le}
use Rattle.std.proofs.Math.Option.{none, some}
use Rattle.netlist.specs.Answer.{Test, answered, refusal, refused}
use Rattle.values.specs.Lists.{at}
use Rattle.netlist.specs.Netlist.{Net, net_of, reading}
use Rattle.circuit.specs.declared.fault.Fault.{Fault}
use Rattle.certificate.specs.Certificate.{head_length}
use Rattle.search.specs.FirstSplit.{first_split}
use Rattle.splits.specs.declared.split.Split.{Split}
use Rattle.fault_list.specs.Faults.{faults}
use Rattle.report_text.specs.Lines.{mark_line, refused_line, total_line}
use Rattle.knowledge.specs.Window.{most_frames}

-- Standard input: B, F (a byte each), netlist.
abbrev pub given_b : List ℕ → ℕ
given_b input = at input 0

abbrev pub given_f : List ℕ → ℕ
given_f input = at input 1

abbrev pub netlist_in : List ℕ → List ℕ
netlist_in input = drop 2 input

-- the length of each of the program's buffers
abbrev pub buffer_length : ℕ
buffer_length = 65536

-- a fault that the finder marks, with the first split whose two branches close
pub record Mark : Type 0 where
  pub fault : Fault
  pub split : Split

abbrev pub mark : Fault → Split → Mark
mark f s = record { fault = f; split = s }

-- the marks among these faults
unfoldable pub marks_among : Net → ℕ → ℕ → List Fault → List Mark
marks_among net B F [] = []
marks_among net B F (f ∷ fs) = elim (first_split net f B F) [ some s ↦ mark f s ∷ marks_among net B F fs | none ↦ marks_among net B F fs ]

-- A line for each mark.
unfoldable pub mark_lines : List Mark → List ℕ
mark_lines [] = []
mark_lines (m ∷ ms) = mark_line m.fault m.split ++ mark_lines ms

-- the lines of all marks, and last "K of M", K marks among M faults
unfoldable pub report_lines : Net → ℕ → ℕ → List ℕ
report_lines net B F = let ms = marks_among net B F (faults net) in mark_lines ms ++ total_line (length ms) (length (faults net))

-- W: the number of frames
abbrev pub frames_given : List ℕ → ℕ
frames_given input = given_b input + given_f input + 1

-- 10 and 12 of 01, "Turned back": W above 15, a certificate slice that is too short. 9 and 11 never apply: each fault that is listed
-- exists, and N × W is at most 4,096 × 15, so that a work slice has room.
abbrev pub window_tests : List (Test (List ℕ))
window_tests =
    record { number = 10; passes = λ input. nat_le (frames_given input) most_frames }
    ∷ record { number = 12; passes = λ input. nat_le (head_length + 14 * ((net_of (netlist_in input)).size * frames_given input)) buffer_length }
    ∷ []

-- the report on an input of two bytes and a netlist: a refusal prints only its line
unfoldable pub report_on : List ℕ → List ℕ
report_on input =
    elim (reading (netlist_in input)) [
      | refused k ↦ refused_line k
      | answered _ ↦ elim (refusal window_tests input) [ some k ↦ refused_line k | none ↦ report_lines (net_of (netlist_in input)) (given_b input) (given_f input) ]
    ]

-- what is printed; input under two bytes is 1
unfoldable pub report : List ℕ → List ℕ
report input = elim (nat_le 2 (length input)) [ false ↦ refused_line 1 | true ↦ report_on input ]

-- The report, line by line, as the program makes it: each turn writes the next line into a slice. `WritesReport` says that the lines
-- together are the report; the definition `next_line` is what a turn does, by the contract of the function of that name.
use Rattle.std.specs.Prelude.{◌≡◌, ℕ, zero, suc, ◌+◌, ◌%◌, ◌≤◌, Bool, true, false, cond, List, [], ◌∷◌, ◌++◌, length, take, nat_lt}
use Rattle.std.proofs.lemmas.List.Edits.{sets}
use Rattle.netlist.specs.Answer.{Answer, answered, refused}
use Rattle.netlist.specs.Netlist.{Net, net_of}
use Rattle.circuit.specs.declared.fault.Fault.{Fault}
use Rattle.certificate.specs.Certificate.{split_frame, split_node}
use Rattle.search.specs.FinderCall.{finder_call}
use Rattle.finder.specs.Finder.{finding}
use Rattle.splits.specs.Split.{split}
use Rattle.fault_list.specs.Faults.{fault_after, first_fault, rest_after}
use Rattle.report_text.specs.Lines.{line_length, mark_line, refused_line, total_line}
use Rattle.report_text.specs.Report.{buffer_length, given_b, given_f, netlist_in, report}
use Rattle.report_text.specs.declared.progress.Progress.{Progress}
use Rattle.report_text.specs.declared.progress.Stage.{Stage}
use Rattle.report_text.specs.declared.progress.Stage.TheVariants.{Counted, Looking, Over}

abbrev pub progress : Stage → ℕ → ℕ → ℕ → Progress
progress s k m l = record { stage = s; marks = k; faults = m; length = l }

-- the beginning: the first fault is looked at next
unfoldable pub begun : List ℕ → Progress
begun input = progress (Looking (first_fault (net_of (netlist_in input)))) 0 0 0

-- nothing comes next
abbrev pub is_over : Stage → Bool
is_over (Looking f) = false
is_over Counted = false
is_over Over = true

-- what a turn is given: the input, how far the report has come, two work slices, a slice for certificates, and one for the line
pub record Turn : Type 0 where
  pub input : List ℕ
  pub progress : Progress
  pub first : List ℕ
  pub second : List ℕ
  pub certificate : List ℕ
  pub line : List ℕ

abbrev pub turn : List ℕ → Progress → List ℕ → List ℕ → List ℕ → List ℕ → Turn
turn input p v w x l = record { input = input; progress = p; first = v; second = w; certificate = x; line = l }

-- how far the report has come then, and what the four lent slices hold
pub record TurnOutcome : Type 0 where
  pub progress : Progress
  pub first : List ℕ
  pub second : List ℕ
  pub certificate : List ℕ
  pub line : List ℕ

abbrev pub turn_outcome : Progress → List ℕ → List ℕ → List ℕ → List ℕ → TurnOutcome
turn_outcome p v w x l = record { progress = p; first = v; second = w; certificate = x; line = l }

-- what a turn makes: its line, and how far the report has come; `length` of a progress is that of the line
pub record Made : Type 0 where
  pub stage : Stage
  pub marks : ℕ
  pub faults : ℕ
  pub line : List ℕ

abbrev pub made : Stage → ℕ → ℕ → List ℕ → Made
made s k m l = record { stage = s; marks = k; faults = m; line = l }

-- a line stands at its slice's start
abbrev pub line_written : Made → List ℕ → List ℕ → List ℕ → List ℕ → TurnOutcome
line_written d v w x l = turn_outcome (progress d.stage d.marks d.faults (length d.line)) v w x (sets l 0 d.line)

-- a count of 32 bits, counted on
abbrev pub one_more : ℕ → ℕ
one_more k = (k + 1) % 4294967296

-- once all faults have been looked at, they are counted
unfoldable pub stage_at : Net → Fault → Stage
stage_at net f = cond (nat_lt f.node net.size) (Looking f) Counted

-- the finder's answer to a fault, with k marks and m faults before; bs: what the certificate's slice holds
unfoldable pub made_for : Net → Fault → ℕ → ℕ → List ℕ → Answer → Made
made_for net f k m bs (refused x) = made Over k m (refused_line x)
made_for net f k m bs (answered []) = made (stage_at net (fault_after net f)) k (one_more m) []
made_for net f k m bs (answered (c ∷ vs)) =
    made (stage_at net (fault_after net f)) (one_more k) (one_more m) (mark_line f (split c (split_frame bs) (split_node bs)))

-- a turn that looks at a fault
unfoldable pub fault_turn : Fault → Turn → TurnOutcome
fault_turn f t =
    let o = finding (finder_call (netlist_in t.input) f (given_b t.input) (given_f t.input) t.first t.second t.certificate) in
    line_written (made_for (net_of (netlist_in t.input)) f t.progress.marks t.progress.faults o.certificate o.answer) o.first o.second o.certificate t.line

-- a turn that looks at nothing: it makes this
abbrev pub rest_turn : Made → Turn → TurnOutcome
rest_turn d t = line_written d t.first t.second t.certificate t.line

unfoldable pub turn_in : Stage → Turn → TurnOutcome
turn_in (Looking f) t = fault_turn f t
turn_in Counted t = rest_turn (made Over t.progress.marks t.progress.faults (total_line t.progress.marks t.progress.faults)) t
turn_in Over t = rest_turn (made Over t.progress.marks t.progress.faults []) t

-- what a turn answers, and leaves in its slices
abbrev pub next_line : Turn → TurnOutcome
next_line t = turn_in t.progress.stage t

-- what slices hold when a turn begins
pub record Slices : Type 0 where
  pub first : List ℕ
  pub second : List ℕ
  pub certificate : List ℕ
  pub line : List ℕ

abbrev pub slices : List ℕ → List ℕ → List ℕ → List ℕ → Slices
slices v w x l = record { first = v; second = w; certificate = x; line = l }

-- the program's buffers, and room for a line
pub record ProgramBuffers (s : Slices) : Type 0 where
  pub first : length s.first ≡ buffer_length
  pub second : length s.second ≡ buffer_length
  pub certificate : length s.certificate ≡ buffer_length
  pub line : line_length ≤ length s.line

module _ (input : List ℕ) (S : ℕ → Slices) where
  -- turn i, whose slices hold S i
  abbrev pub turn_at : ℕ → Progress → TurnOutcome
  turn_at i p = next_line (turn input p (S i).first (S i).second (S i).certificate (S i).line)

  -- what m turns write, from turn i on: of each line's slice the part that the line takes
  unfoldable pub written_from : ℕ → ℕ → Progress → List ℕ
  written_from i zero p = []
  written_from i (suc m) p = let o = turn_at i p in take o.progress.length o.line ++ written_from (i + 1) m o.progress

  -- how far the report has come after m turns, from turn i on
  unfoldable pub progress_from : ℕ → ℕ → Progress → Progress
  progress_from i zero p = p
  progress_from i (suc m) p = progress_from (i + 1) m (turn_at i p).progress

-- Turns from here on write the report and are over after so many of them, whatever their slices hold; a turn that is over writes
-- nothing, so that one may stop there. Where the input fills the buffer, what comes behind it makes no other report.
pub record WritesReport (input : List ℕ) (p : Progress) : Type 0 where
  pub turns : ℕ
  pub written : (S : ℕ → Slices) → ((i : ℕ) → ProgramBuffers (S i)) → written_from input S 0 turns p ≡ report input
  pub ended : (S : ℕ → Slices) → ((i : ℕ) → ProgramBuffers (S i)) → (progress_from input S 0 turns p).stage ≡ Over
  pub whole : (rest : List ℕ) → length input ≡ buffer_length → report (input ++ rest) ≡ report input

-- How many turns may still come, by what is left of the fault list.
abbrev pub turns_left : List ℕ → Stage → ℕ
turns_left input (Looking f) = length (rest_after (net_of (netlist_in input)) f) + 2
turns_left input Counted = 1
turns_left input Over = 0

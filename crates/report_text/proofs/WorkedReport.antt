-- The worked example of 01, "Report program", a flip-flop fed by itself, and some refusals, computed by the checker of proofs.
use Rattle.std.proofs.Common.{◌≡◌, ℕ, zero, suc, ◌+◌, List, [], ◌∷◌, ◌++◌, refl}
use Rattle.netlist.proofs.Vectors.{p3, p6}
use Rattle.simulator.specs.Clock.{pin_values}
use Rattle.circuit.specs.Fault.{lines_of}
use Rattle.gates.specs.Kind.{gate, rule_of}
use Rattle.values.specs.Lists.{any, build, every}
use Rattle.netlist.specs.Netlist.{count_fits, kind_known, net_of, pair_joined, pair_start, pins_of, reading, sizes_allowed, source_allowed, source_of, sources_allowed}
use Rattle.checker.specs.Checker.{closes}
use Rattle.trace.specs.Trace.{effect_dies, gate_touched, latched_touched, latched_touched_list, touched_list, node_touched, pin_touched}
use Rattle.knowledge.specs.Window.{begin, conclusion, enter, in_force, known, output_conclusion, pin_conclusion, held}
use Rattle.sweeps.specs.Splits.{branch_of, split_closes}
use Rattle.search.specs.FirstSplit.{first_some, try_frames, try_nodes, try_split, try_windows}
use Rattle.sweeps.specs.Sweeps.{rising, says_nothing, sweep, sweep_frame, sweeps, try_line, use_relation, implied}
use Rattle.fault_list.specs.Faults.{faults_of, node_faults, pin_faults}
use Rattle.fault_list.specs.Text.{decimal, digits, field}
use Rattle.report_text.specs.Lines.{mark_line, refused_line, total_line}
use Rattle.report_text.specs.Report.{mark_lines, marks_among, report, report_lines, report_on}

-- an AND of one input twice, B 0 and F 0
abbrev pub worked_input : List ℕ
worked_input = 0 ∷ 0 ∷ p3

-- "1 0 1 0 0 0", "1 1 1 0 0 0" and "2 of 12", each with its line feed
abbrev pub worked_text : List ℕ
worked_text =
    49 ∷ 32 ∷ 48 ∷ 32 ∷ 49 ∷ 32 ∷ 48 ∷ 32 ∷ 48 ∷ 32 ∷ 48 ∷ 10
    ∷ 49 ∷ 32 ∷ 49 ∷ 32 ∷ 49 ∷ 32 ∷ 48 ∷ 32 ∷ 48 ∷ 32 ∷ 48 ∷ 10
    ∷ 50 ∷ 32 ∷ 111 ∷ 102 ∷ 32 ∷ 49 ∷ 50 ∷ 10 ∷ []

-- "refused ", a number's digits, and the line feed
abbrev refused-text : List ℕ → List ℕ
refused-text ds = 114 ∷ 101 ∷ 102 ∷ 117 ∷ 115 ∷ 101 ∷ 100 ∷ 32 ∷ [] ++ (ds ++ (10 ∷ []))

-- N inputs and nothing else
abbrev inputs : ℕ → List ℕ
inputs zero = []
inputs (suc n) = 0 ∷ 0 ∷ 0 ∷ 0 ∷ 0 ∷ inputs n

-- "0 s u 1 0 0": node 0, its site and stuck value, c 1, split at node 0 and frame 0
abbrev mark_text : ℕ → ℕ → List ℕ
mark_text s u = 48 ∷ 32 ∷ decimal s ++ (32 ∷ (48 + u) ∷ 32 ∷ 49 ∷ 32 ∷ 48 ∷ 32 ∷ 48 ∷ 10 ∷ [])

pub record WorkedReports : Type 0 where
  pub worked_example : report worked_input ≡ worked_text
  -- B 1, F 0: all four faults of the flip-flop, pins before the node itself; B 0, F 1: none
  pub flip_flop : report (1 ∷ 0 ∷ p6)
      ≡ mark_text 0 0 ++ (mark_text 0 1 ++ (mark_text 255 0 ++ (mark_text 255 1 ++ (52 ∷ 32 ∷ 111 ∷ 102 ∷ 32 ∷ 52 ∷ 10 ∷ []))))
  pub flip_flop_at_0 : report (0 ∷ 1 ∷ p6) ≡ 48 ∷ 32 ∷ 111 ∷ 102 ∷ 32 ∷ 52 ∷ 10 ∷ []
  pub no_input : report [] ≡ refused-text (49 ∷ [])
  pub one_byte : report (0 ∷ []) ≡ refused-text (49 ∷ [])
  pub no_netlist : report (0 ∷ 0 ∷ []) ≡ refused-text (49 ∷ [])
  pub no_nodes : report (0 ∷ 0 ∷ 0 ∷ 0 ∷ 0 ∷ 0 ∷ []) ≡ refused-text (50 ∷ [])
  -- B 14, F 1
  pub frames_16 : report (14 ∷ 1 ∷ p3) ≡ refused-text (49 ∷ 48 ∷ [])
  -- B 255, F 255
  pub frames_511 : report (255 ∷ 255 ∷ p3) ≡ refused-text (49 ∷ 48 ∷ [])
  -- 312 nodes with 15 frames: N × W is 4,680
  pub nodes_4680 : report (14 ∷ 0 ∷ 56 ∷ 1 ∷ 0 ∷ 0 ∷ inputs 312) ≡ refused-text (49 ∷ 50 ∷ [])

pub worked_reports : WorkedReports
unfolding reading sizes_allowed every any kind_known pair_joined pair_start count_fits rule_of sources_allowed source_allowed source_of
    lines_of net_of pins_of build pin_values gate
    held known in_force output_conclusion pin_conclusion conclusion enter begin
    pin_touched gate_touched node_touched touched_list latched_touched latched_touched_list effect_dies closes
    rising says_nothing try_line use_relation sweep_frame sweep sweeps implied
    first_some branch_of split_closes try_split try_nodes try_frames try_windows
    pin_faults node_faults faults_of digits decimal field mark_line total_line refused_line marks_among mark_lines report_lines report_on report
worked_reports =
    record {
      worked_example = refl;
      flip_flop = refl;
      flip_flop_at_0 = refl;
      no_input = refl;
      one_byte = refl;
      no_netlist = refl;
      no_nodes = refl;
      frames_16 = refl;
      frames_511 = refl;
      nodes_4680 = refl;
    }

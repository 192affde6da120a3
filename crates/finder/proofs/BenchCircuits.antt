-- The bench circuits P1 to P9 of 01, gathered in one list and proved together: the kernel computes every case's answer and bytes.
-- P1 is a circuit of an input a, flip-flops b(a) and c(a), AND(b, c) and outputs of nodes 3 and 2; P3 an AND of one input twice and its
-- output; P6 a flip-flop fed by itself, alone; P9 an AND of m pins.
use mathlib.Core.List.{List, [], ◌++◌, ◌∷◌, map}
use mathlib.Core.Path.{◌≡◌, refl}
use Prim.Native.Nat.{ℕ}
use lib.ListN.{replicate}
use Rattle.netlist.proofs.Vectors.{p1, p3, p6, p9}
use Rattle.netlist.specs.Answer.{Answer, refused}
use Rattle.simulator.specs.Clock.{pin_values}
use Rattle.circuit.specs.Fault.{fault, fault_exists, lines_of}
use Rattle.gates.specs.Kind.{gate, rule_of}
use Rattle.values.specs.Lists.{any, build, every}
use Rattle.netlist.specs.Netlist.{count_fits, kind_known, net_of, pair_joined, pair_start, pins_of, reading, sizes_allowed, sound, source_allowed, source_of, sources_allowed}
use Rattle.circuit.specs.declared.fault.Fault.{Fault}
use Rattle.circuit.specs.declared.fault.Site.TheVariants.{Pin, Whole}
use Rattle.certificate.specs.Certificate.{pairs_right, steps_in, steps_of}
use Rattle.checker.specs.Checker.{CheckerCall, accepted, checker_call, checking, closes, follows, judged, replay, replayed, step_within, verdict}
use Rattle.trace.specs.Trace.{effect_dies, gate_touched, latched_touched, latched_touched_list, touched_list, node_touched, pin_touched}
use Rattle.knowledge.specs.Window.{begin, conclusion, enter, in_force, known, output_conclusion, pin_conclusion, held}
use Rattle.search.specs.FinderCall.{FinderCall, finder_call}
use Rattle.search.specs.FirstSplit.{first_some, try_frames, try_nodes, try_split, try_windows}
use Rattle.sweeps.specs.Splits.{branch_of, certificate_for, split_closes, step_count}
use Rattle.finder.specs.Finder.{answer_for, bytes_for, finding, found, nothing_found, searched}
use Rattle.sweeps.specs.Sweeps.{rising, says_nothing, sweep, sweep_frame, sweeps, try_line, use_relation, implied}
use Rattle.certificate.specs.Written.{certificate_of, head_bytes, run_bytes}

-- a call of the reader, the checker or the finder
pub data Call : Type 0 where
  reads : List ℕ → Call
  checks : CheckerCall → Call
  finds : FinderCall → Call

-- an answer, and what each lent slice then holds
pub record Given : Type 0 where
  pub answer : Answer
  pub slices : List (List ℕ)

abbrev pub given : Answer → List (List ℕ) → Given
given answer slices = record { answer = answer; slices = slices }

-- what the tool's definition gives for a call
abbrev pub given_by : Call → Given
given_by (reads netlist) = given (reading netlist) []
given_by (checks a) = given (checking a).answer ((checking a).first ∷ (checking a).second ∷ [])
given_by (finds a) = given (finding a).answer ((finding a).first ∷ (finding a).second ∷ (finding a).certificate ∷ [])

-- a call, and what it has to give
pub record Case : Type 0 where
  pub call : Call
  pub gives : Given

abbrev pub case : Call → Given → Case
case call gives = record { call = call; gives = gives }

-- a step n 00 t v n 00 t: the relation of node n at frame t gives the value v of the node itself
abbrev step : ℕ → ℕ → ℕ → List ℕ
step n t v = n ∷ 0 ∷ t ∷ v ∷ n ∷ 0 ∷ t ∷ []

-- the 95 bytes of P1's certificate: in each branch a step for nodes n = 1 to 5
abbrev run₁ : ℕ → List ℕ
run₁ v = step 1 1 v ++ (step 2 1 v ++ (step 3 1 v ++ (step 4 1 v ++ step 5 1 v)))

abbrev pub certificate₁ : List ℕ
certificate₁ =
    (0x03 ∷ 0x00 ∷ 0x01 ∷ 0x01 ∷ 0x01 ∷ 0x00 ∷ 0x00 ∷ 0x00 ∷ 0x00
    ∷ 0x19 ∷ 0x00 ∷ 0x00 ∷ 0x00 ∷ 0x23 ∷ 0x00 ∷ 0x00 ∷ 0x00
    ∷ 0x3C ∷ 0x00 ∷ 0x00 ∷ 0x00 ∷ 0x23 ∷ 0x00 ∷ 0x00 ∷ 0x00 ∷ [])
    ++ (run₁ 0 ++ run₁ 1)

-- the 53 bytes of P3's: in each branch the AND and the output follow
abbrev certificate₃ : List ℕ
certificate₃ =
    (0x01 ∷ 0x00 ∷ 0x00 ∷ 0x01 ∷ 0x00 ∷ 0x00 ∷ 0x00 ∷ 0x00 ∷ 0x00
    ∷ 0x19 ∷ 0x00 ∷ 0x00 ∷ 0x00 ∷ 0x0E ∷ 0x00 ∷ 0x00 ∷ 0x00
    ∷ 0x27 ∷ 0x00 ∷ 0x00 ∷ 0x00 ∷ 0x0E ∷ 0x00 ∷ 0x00 ∷ 0x00 ∷ [])
    ++ ((step 1 0 0 ++ step 2 0 0) ++ (step 1 0 1 ++ step 2 0 1))

-- the 32 bytes of P7's: branch 0 has one step, branch 1 none
abbrev certificate₇ : List ℕ
certificate₇ =
    (0x00 ∷ 0x00 ∷ 0xFF ∷ 0x00 ∷ 0x01 ∷ 0x00 ∷ 0x00 ∷ 0x00 ∷ 0x00
    ∷ 0x19 ∷ 0x00 ∷ 0x00 ∷ 0x00 ∷ 0x07 ∷ 0x00 ∷ 0x00 ∷ 0x00
    ∷ 0x20 ∷ 0x00 ∷ 0x00 ∷ 0x00 ∷ 0x00 ∷ 0x00 ∷ 0x00 ∷ 0x00 ∷ [])
    ++ step 0 1 0

-- The finder, lent work slices of `places` bytes that are 7, and for the certificate `room` bytes that are 9. What it leaves: zeros in the
-- work slices, and behind the bytes written `left` bytes as they were.
abbrev sought : List ℕ → Fault → ℕ → ℕ → ℕ → ℕ → Call
sought netlist f B F places room = finds (finder_call netlist f B F (replicate places 7) (replicate places 7) (replicate room 9))

abbrev leaves : Answer → ℕ → List ℕ → ℕ → Given
leaves answer places bytes left = given answer (replicate places 0 ∷ replicate places 0 ∷ (bytes ++ replicate left 9) ∷ [])

abbrev pub cases : List Case
cases =
    -- P1: found, c 1, 95 bytes, 10 steps; and the checker accepts these bytes
    case (sought p1 (fault 3 (Pin 1) 1) 1 0 12 193) (leaves (found 1 95 10) 12 certificate₁ 98)
    ∷ case (checks (checker_call p1 certificate₁ (replicate 12 7) (replicate 12 7))) (given (accepted 1) (replicate 12 0 ∷ replicate 12 0 ∷ []))
    -- P2: P1 with B 0, none
    ∷ case (sought p1 (fault 3 (Pin 1) 1) 0 0 6 109) (leaves nothing_found 6 [] 109)
    -- P3, P4, P5: node 1 pin 0, u 1 found; u 0 none; node 0, u 1 none
    ∷ case (sought p3 (fault 1 (Pin 0) 1) 0 0 3 67) (leaves (found 0 53 4) 3 certificate₃ 14)
    ∷ case (sought p3 (fault 1 (Pin 0) 0) 0 0 3 67) (leaves nothing_found 3 [] 67)
    ∷ case (sought p3 (fault 0 Whole 1) 0 0 3 67) (leaves nothing_found 3 [] 67)
    -- P6, P7: node 0, u 0, F 0: B 0 none; B 1 found, c 1, 32 bytes, 1 step
    ∷ case (sought p6 (fault 0 Whole 0) 0 0 1 39) (leaves nothing_found 1 [] 39)
    ∷ case (sought p6 (fault 0 Whole 0) 1 0 2 53) (leaves (found 1 32 1) 2 certificate₇ 21)
    -- P8: B 14, F 0 is allowed; F 1 gives 10 and alters nothing
    ∷ case (sought p6 (fault 0 Whole 0) 14 0 15 235) (leaves (found 1 32 1) 15 certificate₇ 203)
    ∷ case (sought p6 (fault 0 Whole 0) 14 1 16 249) (given (refused 10) (replicate 16 7 ∷ replicate 16 7 ∷ replicate 249 9 ∷ []))
    -- P9, which request 1 of 02 moved: AND of 64 pins is sound; of 65 gives 6
    ∷ case (reads (p9 64)) (given (sound 2 64) [])
    ∷ case (reads (p9 65)) (given (refused 6) [])
    ∷ []

pub circuits : map (λ (k : Case). given_by k.call) cases ≡ map (λ (k : Case). k.gives) cases
unfolding reading sizes_allowed every any kind_known pair_joined pair_start count_fits rule_of sources_allowed source_allowed source_of
    fault_exists lines_of net_of pins_of build pin_values gate
    held known in_force output_conclusion pin_conclusion conclusion enter begin
    pin_touched gate_touched node_touched touched_list latched_touched latched_touched_list effect_dies closes
    pairs_right steps_in steps_of step_within follows replay replayed verdict judged checking
    rising says_nothing try_line use_relation sweep_frame sweep sweeps implied
    run_bytes head_bytes certificate_of
    first_some branch_of split_closes try_split try_nodes try_frames try_windows certificate_for step_count answer_for bytes_for searched finding
circuits = refl

-- 01, "Certificate and checker": what a certificate's bytes say. Bytes past the end count as 0.
use Rattle.std.specs.Prelude.{Bool, ◌&&◌, List, [], ◌∷◌, ◌%◌, ◌*◌, ◌+◌, ◌/◌, suc, zero, ℕ, eqb, drop, length}
use Rattle.circuit.specs.Fault.{fault, site_of}
use Rattle.values.specs.Lists.{at, u16_at, u32_at}
use Rattle.circuit.specs.declared.fault.Fault.{Fault}
use Rattle.certificate.specs.declared.step.Step.{Step}

-- the length of what stands before the steps
abbrev pub head_length : ℕ
head_length = 25

module _ (bs : List ℕ) where
  -- fault node, site and u
  abbrev pub fault_of : Fault
  fault_of = fault (u16_at bs 0) (site_of (at bs 2)) (at bs 3)

  -- what stands behind the fault: c, F, the split's node and frame, and the two pairs of offset and length, then the steps
  abbrev pub rest_of : List ℕ
  rest_of = drop 4 bs

  abbrev pub c_of : ℕ
  c_of = at rest_of 0

  abbrev pub f_of : ℕ
  f_of = at rest_of 1

  -- W: the number of frames of the window
  abbrev pub frames_of : ℕ
  frames_of = c_of + f_of + 1

  abbrev pub split_node : ℕ
  split_node = u16_at rest_of 2

  abbrev pub split_frame : ℕ
  split_frame = at rest_of 4

  -- branch v's pair: where its run starts, and the run's length in bytes
  abbrev pub run_offset : ℕ → ℕ
  run_offset v = u32_at rest_of (5 + 8 * v)

  abbrev pub run_length : ℕ → ℕ
  run_length v = u32_at rest_of (9 + 8 * v)

  -- The first offset is 25, the second follows the first run, the file ends with the second; lengths are multiples of 7.
  unfoldable pub pairs_right : Bool
  pairs_right =
      eqb (run_offset 0) head_length
      && (eqb (run_offset 1) (head_length + run_length 0) && (eqb (length bs) (run_offset 1 + run_length 1) && (eqb (run_length 0 % 7) 0 && eqb (run_length 1 % 7) 0)))

-- A step: node (2), frame (1), value (1), then node (2) and frame (1) of the relation used. It stands at the start of these bytes.
abbrev pub step_of : List ℕ → Step
step_of bs = record { node = u16_at bs 0; frame = at bs 2; value = at bs 3; via = u16_at bs 4; during = at bs 6 }

-- the first m steps of a run
unfoldable pub steps_in : ℕ → List ℕ → List Step
steps_in zero bs = []
steps_in (suc m) bs = step_of bs ∷ steps_in m (drop 7 bs)

-- Each branch's steps are one run of bytes that starts where its pair says.
unfoldable pub steps_of : List ℕ → ℕ → List Step
steps_of bs v = steps_in (run_length bs v / 7) (drop (run_offset bs v) bs)

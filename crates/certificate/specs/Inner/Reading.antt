-- A certificate as the code reads it: what stands before the pairs, and a run step by step. What `check` promises rests on `Certificate` alone.
use Rattle.std.specs.Prelude.{List, ◌-◌, ◌/◌, ℕ, drop, length}
use Rattle.certificate.specs.Certificate.{c_of, f_of, fault_of, split_frame, split_node, steps_in}
use Rattle.certificate.specs.declared.layout.Head.{Head}
use Rattle.certificate.specs.declared.step.Step.{Step}

-- what stands before the pairs
abbrev pub head_of : List ℕ → Head
head_of bs = record { fault = fault_of bs; c = c_of bs; f = f_of bs; node = split_node bs; frame = split_frame bs }

-- The steps that are left in a run from position i on. Fewer than 7 bytes are none.
abbrev pub steps_left : List ℕ → ℕ → List Step
steps_left run i = steps_in ((length run - i) / 7) (drop i run)

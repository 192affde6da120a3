-- 01, "Finder": a split of a window, its two branches worked out, whether both close, and its certificate.
use Rattle.std.specs.Prelude.{Bool, ◌&&◌, List, ◌+◌, ℕ, length}
use Rattle.circuit.specs.Fault.{lines_of}
use Rattle.netlist.specs.Netlist.{Net}
use Rattle.circuit.specs.declared.fault.Fault.{Fault}
use Rattle.checker.specs.Checker.{closes}
use Rattle.knowledge.specs.Window.{Branch, present_below}
use Rattle.sweeps.specs.Sweeps.{implied}
use Rattle.certificate.specs.Written.{certificate_of}
use Rattle.certificate.specs.declared.layout.Head.{Head}
use Rattle.splits.specs.declared.split.Split.{Split}

-- what a split's certificate names: fault, c, F, and the split
abbrev pub head_for : Fault → ℕ → Split → Head
head_for f F s = record { fault = f; c = s.c; f = F; node = s.node; frame = s.frame }

module _ (net : Net) (f : Fault) (F : ℕ) where
  -- branch v of a split, worked out
  unfoldable pub branch_of : Split → ℕ → Branch
  branch_of s v = implied net (present_below s.c (lines_of f)) (s.c + F + 1) s.node s.frame v

  -- both branches of the split close
  unfoldable pub split_closes : Split → Bool
  split_closes s = closes net (lines_of f) s.c F (branch_of s 0) && closes net (lines_of f) s.c F (branch_of s 1)

  -- the certificate of a split
  unfoldable pub certificate_for : Split → List ℕ
  certificate_for s = certificate_of (head_for f F s) (branch_of s 0).steps (branch_of s 1).steps

  -- how many steps its two branches have
  unfoldable pub step_count : Split → ℕ
  step_count s = length (branch_of s 0).steps + length (branch_of s 1).steps

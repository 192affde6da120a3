use Rattle.knowledge.specs.Inner.Slice.{hold_frames}
use mathlib.Core.Path.{◌≡◌}
use Rattle.knowledge.proofs.window.hold_fault.Given as goal

abbrev pub invariant-loop-frame : goal.invariant-loop-frame
invariant-loop-frame l = l.known ≡ hold_frames l.n l.fault l.frame l.initial.known

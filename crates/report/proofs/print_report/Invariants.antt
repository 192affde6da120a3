use Rattle.std.proofs.Common.{length, ◌≡◌}
use Rattle.report_text.specs.Turns.{ProgramBuffers, slices, turns_left}
use Rattle.report.proofs.print_report.Given as goal

-- the four lent slices stay the program's buffers, and each turn leaves one turn less
abbrev pub invariant-loop-progress : goal.invariant-loop-progress
invariant-loop-progress g l =
    (length l.known ≡ length l.initial.known)
    × (length l.touched ≡ length l.initial.touched)
    × (length l.certificate ≡ length l.initial.certificate)
    × (length l.line ≡ length l.initial.line)
    × ProgramBuffers (slices l.known l.touched l.certificate l.line)

abbrev pub decreases-loop-progress : goal.decreases-loop-progress
decreases-loop-progress g l = turns_left l.input l.progress.stage

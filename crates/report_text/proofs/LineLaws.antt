-- The lengths of lines, whose numbers have 32 bits.
use Rattle.std.proofs.Common.{ℕ, ◌<◌, ◌≤◌, length, arith, length-append}
use Rattle.circuit.specs.Fault.{site_byte}
use Rattle.circuit.specs.declared.fault.Fault.{Fault}
use Rattle.splits.specs.declared.split.Split.{Split}
use Rattle.fault_list.proofs.TextLaws.{field-short}
use Rattle.fault_list.specs.Text.{line_feed, space}
use Rattle.report_text.specs.Lines.{line_length, mark_line, refused_line, total_line}

pub mark-short : (f : Fault) (s : Split) → f.node < 4294967296 → site_byte f.site < 4294967296 → f.stuck < 4294967296
    → s.c < 4294967296 → s.node < 4294967296 → s.frame < 4294967296 → length (mark_line f s) ≤ line_length
unfolding mark_line
mark-short f s h₁ h₂ h₃ h₄ h₅ h₆ =
    let l₁ = field-short f.node space h₁ in
    let l₂ = field-short (site_byte f.site) space h₂ in
    let l₃ = field-short f.stuck space h₃ in
    let l₄ = field-short s.c space h₄ in
    let l₅ = field-short s.node space h₅ in
    let l₆ = field-short s.frame line_feed h₆ in
    simp length-append (omega arith)

pub total-short : (k m : ℕ) → k < 4294967296 → m < 4294967296 → length (total_line k m) ≤ line_length
unfolding total_line
total-short k m h g =
    let a = field-short k space h in
    let b = field-short m line_feed g in
    simp length-append (omega arith)

pub refused-short : (k : ℕ) → k < 4294967296 → length (refused_line k) ≤ line_length
unfolding refused_line
refused-short k h = let a = field-short k line_feed h in simp length-append (omega arith)

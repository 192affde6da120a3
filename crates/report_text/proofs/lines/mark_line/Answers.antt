-- The line is six fields, each put straight behind the one before. A field that was put is a run of bytes (`run-put`), and runs that
-- follow each other are one (`runs`), which is the line.
use Rattle.fault_list.proofs.TextLaws.{run-put, runs}
use Rattle.fault_list.specs.Inner.Put.{put_at}
use Rattle.fault_list.specs.Text.{field, line_feed, space}
use Rattle.report_text.specs.Lines.{mark_line}
use Rattle.circuit.specs.Fault.{site_byte}
use Rattle.std.proofs.Common.{◌≡◌, ℕ, ◌+◌, refl, ap, ◌∙◌, arith}
use Rattle.report_text.proofs.lines.mark_line.Goals as goal

pub returns-clause-written : goal.returns-clause-written
unfolding mark_line
returns-clause-written c =
    let a = c.args in
    let f₁ = c.put_field-end in
    let f₂ = c.put_field-end-2 in
    let f₃ = c.put_field-end-3 in
    let f₄ = c.put_field-end-4 in
    let f₅ = c.put_field-end-5 in
    let f₆ = c.put_field in
    let e₂ = f₁.result + f₂.result in
    let e₃ = e₂ + f₃.result in
    let e₄ = e₃ + f₄.result in
    let e₅ = e₄ + f₅.result in
    let start : f₁.result ≡ 0 + f₁.result = omega arith in
    let site = ap (λ (x : ℕ). put_at f₁.new.out f₁.result (field x space)) c.from.ensures in
    let r₁ = run-put a.out.now 0 (field a.fault.node space) f₁.ensures.text_put start in
    let r₂ = run-put f₁.new.out f₁.result (field (site_byte a.fault.site) space) (f₂.ensures.text_put ∙ site) refl in
    let r₃ = run-put f₂.new.out e₂ (field a.fault.stuck space) f₃.ensures.text_put refl in
    let r₄ = run-put f₃.new.out e₃ (field a.c space) f₄.ensures.text_put refl in
    let r₅ = run-put f₄.new.out e₄ (field (a.head.node) space) f₅.ensures.text_put refl in
    let r₆ = run-put f₅.new.out e₅ (field (a.head.frame) line_feed) f₆.ensures.text_put refl in
    (runs r₁ (runs r₂ (runs r₃ (runs r₄ (runs r₅ r₆))))).holds

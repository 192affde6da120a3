use Rattle.fault_list.proofs.TextLaws.{run-put, runs}
use Rattle.fault_list.specs.Text.{field, line_feed, space}
use Rattle.report_text.specs.Lines.{total_line}
use Rattle.std.proofs.Common.{◌≡◌, ◌+◌, [], ◌∷◌, refl, arith}
use Rattle.report_text.proofs.lines.total_line.Goals as goal

pub returns-clause-written : goal.returns-clause-written
unfolding total_line
returns-clause-written c =
    let a = c.args in
    let k = c.put_field-end in
    let t = c.put_text-end in
    let m = c.put_field in
    let start : k.result ≡ 0 + k.result = omega arith in
    let word = run-put k.new.out k.result (111 ∷ 102 ∷ space ∷ []) t.ensures refl in
    let last = runs word (run-put t.new.out (k.result + t.result) (field a.faults line_feed) m.ensures.text_put refl) in
    (runs (run-put a.out.now 0 (field a.marks space) k.ensures.text_put start) last).holds

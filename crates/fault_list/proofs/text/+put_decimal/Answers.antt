-- A number of ten or more is the decimal of its tenth, which the call has written, and its last digit behind it (`decimal_more` for the
-- text, `put_more` for what is written); that it is no longer than ten digits comes from the range of u32 (`decimal-short`).
use Rattle.std.proofs.Common.{ap, arith, ◌+◌, ◌<◌, ◌≤◌, ◌≡◌, ◌/◌, ◌%◌, length}
use lib.ListN.{length-append}
use Rattle.fault_list.specs.Inner.Put.{Put}
use Rattle.fault_list.specs.Text.{decimal, digit}
use Rattle.fault_list.proofs.TextLaws.{decimal-short, decimal_more, put_more}
use Rattle.fault_list.proofs.text.+put_decimal.Goals as goal

pub returns-clause-text_put : goal.returns-clause-text_put
returns-clause-text_put t c =
    let a = c.args in
    let h : 10 ≤ a.number = omega (arith, c.if-number-lt10.false) in
    rw (decimal_more a.number h)
    (put_more (decimal (a.number / 10)) a.out.now a.place (digit (a.number % 10)) c.put_decimal-length.ensures.text_put c.store_behind.ensures)

pub returns-clause-at_most : goal.returns-clause-at_most
returns-clause-at_most t c =
    let a = c.args in
    let h : 10 ≤ a.number = omega (arith, c.if-number-lt10.false) in
    let q : a.number < 4294967296 = omega (arith, c.ranges.number) in
    let e : length (decimal a.number) ≡ length (decimal (a.number / 10)) + 1 = rw (decimal_more a.number h) (simp length-append (omega arith)) in
    omega (arith, decimal-short a.number q, e, ap (λ (t : Put). t.length) c.put_decimal-length.ensures.text_put)

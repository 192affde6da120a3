use Rattle.fault_list.specs.Text.{decimal, field}
use Rattle.fault_list.proofs.TextLaws.{put_more}
use Rattle.fault_list.proofs.text.put_field.Goals as goal

pub returns-clause-text_put : goal.returns-clause-text_put
unfolding field
returns-clause-text_put c =
    let a = c.args in
    put_more (decimal a.number) a.out.now a.place a.after c.put_decimal-length.ensures.text_put c.store_behind.ensures

use Rattle.conversion.proofs.unfinished.UnfinishedSpan.number_row.Goals as goal

pub returns-in-Ready : goal.returns-in-Ready
returns-in-Ready c = rw (← c.key_form.ensures, c.in-Ready.is) c.put_number.ensures

pub returns-in-Header : goal.returns-in-Header
returns-in-Header c = rw (← c.key_form.ensures, c.in-Header.is) c.put_header_number.ensures

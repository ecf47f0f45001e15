use Rattle.conversion.proofs.Turns.{resource-put}
use Rattle.conversion.proofs.unfinished.UnfinishedSpan.resource_row.Goals as goal

pub returns-in-Ready : goal.returns-in-Ready
returns-in-Ready c = rw (resource-put, ← c.key_form.ensures, ← c.string_form-value.ensures, c.in-Ready.is) c.put_text.ensures

pub returns-in-Header : goal.returns-in-Header
returns-in-Header c = rw (resource-put, ← c.key_form.ensures, ← c.string_form-value.ensures, c.in-Header.is) c.put_header_text.ensures

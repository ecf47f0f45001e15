use Rattle.conversion.proofs.Turns.{scope-put}
use Rattle.conversion.proofs.unfinished.UnfinishedSpan.scope_row.Goals as goal

pub returns : goal.returns
returns c = rw (scope-put, ← c.shown_form-value.ensures) c.put_meta.ensures

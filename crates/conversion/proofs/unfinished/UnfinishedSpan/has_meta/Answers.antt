use Rattle.std.proofs.Common.{ap, sym, ◌∙◌, is_some}
use Rattle.conversion.proofs.Ways.{is_some-found}
use Rattle.conversion.proofs.unfinished.UnfinishedSpan.has_meta.Goals as goal

pub returns : goal.returns
returns c = c.is_some.ensures ∙ ap is_some c.find_meta.ensures ∙ sym (is_some-found _ _)

use Rattle.std.proofs.Common.{◌∙◌}
use Rattle.conversion.proofs.SingleLemmas.{front_placed}
use Rattle.conversion.proofs.forms.in_quotes.Goals as goal

pub returns : goal.returns
returns c = c.part.ensures ∙ front_placed _ _ _ _ c.display_text-n.ensures

use Rattle.std.proofs.lemmas.Bool.Decides.{same_from_decides}
use Rattle.values.proofs.Decided.{is_text_decides}
use Rattle.values.proofs.utf8.is_text.Goals as goal

pub returns : goal.returns
returns c = record { meaning = c.decoded.ensures; test = same_from_decides _ _ c.decoded.ensures (is_text_decides _) }

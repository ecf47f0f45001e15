use Rattle.std.proofs.Common.{length-append, rules}
use Rattle.drafts.proofs.opening.Checked.texts_len.Goals as goal

pub returns : goal.returns
returns c = record { sum = simp length-append; small = search rules }

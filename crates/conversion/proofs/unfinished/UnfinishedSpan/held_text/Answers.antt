use Rattle.std.proofs.Common.{rules}
use Rattle.conversion.proofs.SingleLemmas.{front_filled}
use Rattle.conversion.proofs.unfinished.UnfinishedSpan.held_text.Goals as goal

pub returns : goal.returns
returns g c = search (rules, front_filled)

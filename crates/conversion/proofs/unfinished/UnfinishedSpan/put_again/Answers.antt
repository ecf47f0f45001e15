use Rattle.std.proofs.Common.{rules}
use Rattle.conversion.proofs.Ways.{view_rows}
use Rattle.conversion.proofs.MessageLemmas.{again-old, again-new}
use Rattle.conversion.proofs.unfinished.UnfinishedSpan.put_again.Goals as goal

pub returns-in-Some : goal.returns-in-Some
returns-in-Some c = search (rules, again-old, view_rows)

pub returns-in-None : goal.returns-in-None
returns-in-None c = search (rules, again-new)

use Rattle.std.proofs.Common.{rules}
use Rattle.conversion.proofs.MessageLemmas.{last-told, last-status}
use Rattle.conversion.proofs.unfinished.UnfinishedSpan.last_error.Goals as goal

pub returns-then-all_told : goal.returns-then-all_told
returns-then-all_told c = search (rules, last-told)

pub returns : goal.returns
returns c = search (rules, last-status)

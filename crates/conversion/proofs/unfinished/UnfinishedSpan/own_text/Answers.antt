use Rattle.std.proofs.Common.{rules}
use Rattle.conversion.proofs.SingleLemmas.{absent_text}
use Rattle.conversion.proofs.unfinished.UnfinishedSpan.own_text.Goals as goal

pub returns-then-not-has_attr : goal.returns-then-not-has_attr
returns-then-not-has_attr g c = search (rules, absent_text)

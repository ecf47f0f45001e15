use Rattle.std.proofs.Common.{rules}
use Rattle.conversion.proofs.EventLemmas.{exception-there, exception-none}
use Rattle.conversion.proofs.unfinished.UnfinishedSpan.has_exception.Goals as goal

pub returns-then-any_exception : goal.returns-then-any_exception
returns-then-any_exception c = search (rules, exception-there)

pub returns : goal.returns
returns c = search (rules, exception-none)

use Rattle.std.proofs.Common.{rules}
use Rattle.conversion.proofs.EventLemmas.{found-put, found-nothing}
use Rattle.conversion.proofs.unfinished.UnfinishedSpan.put_found.Goals as goal

pub returns-in-Some : goal.returns-in-Some
returns-in-Some c = search (rules, found-put)

pub returns-in-None : goal.returns-in-None
returns-in-None c = search (rules, found-nothing)

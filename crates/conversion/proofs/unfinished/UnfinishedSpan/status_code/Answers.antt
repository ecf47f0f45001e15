use Rattle.std.proofs.Common.{rules}
use Rattle.conversion.proofs.MinimalLemmas.{minimals}
use Rattle.conversion.proofs.unfinished.UnfinishedSpan.status_code.Goals as goal

pub returns-then-code-eq0 : goal.returns-then-code-eq0
returns-then-code-eq0 g c = search (rules, minimals)

pub returns : goal.returns
returns g c = search (rules, minimals)

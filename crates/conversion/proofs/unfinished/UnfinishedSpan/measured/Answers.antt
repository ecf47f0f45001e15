use Rattle.std.proofs.Common.{rules}
use Rattle.conversion.proofs.MinimalLemmas.{minimals}
use Rattle.conversion.proofs.unfinished.UnfinishedSpan.measured.Goals as goal

pub returns-then-is_measured : goal.returns-then-is_measured
returns-then-is_measured c = search (rules, minimals)

pub returns : goal.returns
returns c = search (rules, minimals)

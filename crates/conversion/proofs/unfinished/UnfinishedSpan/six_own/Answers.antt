use Rattle.std.proofs.Common.{rules}
use Rattle.conversion.proofs.OwnRows.{six-none}
use Rattle.conversion.proofs.unfinished.UnfinishedSpan.six_own.Goals as goal

pub returns : goal.returns
returns c = search (rules, six-none)

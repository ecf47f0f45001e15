use Rattle.std.proofs.Common.{rules}
use Rattle.conversion.proofs.OwnRows.{own-all, own-so, own-more, own-none}
use Rattle.conversion.proofs.own.has_own.Goals as goal

pub loop-i-init : goal.loop-i-init
loop-i-init c = own-all _

pub loop-i-preserved : goal.loop-i-preserved
loop-i-preserved c = search (rules, own-more)

pub returns-then-is_own : goal.returns-then-is_own
returns-then-is_own c = search (rules, own-so)

pub returns : goal.returns
returns c = search (rules, own-none)

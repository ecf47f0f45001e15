use Rattle.std.proofs.Common.{arith, rules}
use Rattle.drafts.proofs.Places.{above-none, above-next}
use Rattle.drafts.proofs.rows.count_rows.Goals as goal

pub loop-i-init : goal.loop-i-init
loop-i-init c = (above-none _ _, omega arith)

pub loop-i-preserved : goal.loop-i-preserved
loop-i-preserved c = (search (rules, above-next), search rules)

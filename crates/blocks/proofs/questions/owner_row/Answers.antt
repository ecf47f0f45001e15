use Rattle.std.proofs.Common.{rules}
use Rattle.blocks.proofs.Projected.{whole, nth_owner}
use Rattle.blocks.proofs.questions.owner_row.Goals as goal

pub returns : goal.returns
returns c = search (rules, whole, nth_owner)

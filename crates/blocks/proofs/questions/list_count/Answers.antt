use Rattle.std.proofs.Common.{rules}
use Rattle.blocks.proofs.Projected.{whole}
use Rattle.blocks.proofs.questions.list_count.Goals as goal

pub returns : goal.returns
returns c = search (rules, whole)

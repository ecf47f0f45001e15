use Rattle.std.proofs.Common.{rules}
use Rattle.blocks.proofs.Projected.{nth_list}
use Rattle.blocks.proofs.questions.item.Goals as goal

pub returns : goal.returns
returns c = search (rules, nth_list)

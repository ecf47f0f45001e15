use Rattle.std.proofs.Common.{rules}
use Rattle.blocks.proofs.Projected.{row-there, row-past}
use Rattle.blocks.proofs.questions.numbered_row.Goals as goal

pub returns-then-i-row_count-clause-row : goal.returns-then-i-row_count-clause-row
returns-then-i-row_count-clause-row c = search (rules, row-there)

pub returns-else-i-row_count-clause-row : goal.returns-else-i-row_count-clause-row
returns-else-i-row_count-clause-row c = search (rules, row-past)

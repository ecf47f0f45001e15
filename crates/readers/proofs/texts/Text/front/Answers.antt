use Rattle.std.proofs.Common.{rules}
use Rattle.readers.proofs.Fronts.{portion-short}
use Rattle.readers.proofs.texts.Text.front.Goals as goal

pub invariant_of-result : goal.invariant_of-result
invariant_of-result c = record { short = search (rules, portion-short) }

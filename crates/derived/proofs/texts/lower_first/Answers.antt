use Rattle.std.proofs.Common.{rules}
use Rattle.readers.proofs.Fronts.{portion-padded}
use Rattle.derived.proofs.texts.lower_first.Goals as goal

pub returns : goal.returns
returns g c = search (rules, portion-padded)

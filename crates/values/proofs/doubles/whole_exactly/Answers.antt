use Rattle.values.proofs.Scaled.{whole_exactly_lem}
use Rattle.values.proofs.doubles.whole_exactly.Goals as goal

pub returns : goal.returns
returns c = whole_exactly_lem

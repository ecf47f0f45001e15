use Rattle.values.proofs.Examples.{worked_examples_lem}
use Rattle.values.proofs.laws.worked_examples.Goals as goal

pub returns : goal.returns
returns c = worked_examples_lem

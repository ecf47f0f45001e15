use Rattle.conversion_law.proofs.Examples.{worked_examples_lem}
use Rattle.conversion_law.proofs.ReadExamples.{read_examples}
use Rattle.conversion_law.proofs.PremisesMet.{premises_met}
use Rattle.conversion_law.proofs.worked_examples.Goals as goal

pub returns-clause-examples : goal.returns-clause-examples
returns-clause-examples c = worked_examples_lem c.ok_is_final.ensures.example

pub returns-clause-readings : goal.returns-clause-readings
returns-clause-readings c = read_examples

pub returns-clause-premises : goal.returns-clause-premises
returns-clause-premises c = premises_met

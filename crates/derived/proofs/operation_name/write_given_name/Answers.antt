use Rattle.std.proofs.Common.{rules}
use Rattle.readers.proofs.Fronts.{portion-padded}
use Rattle.derived.proofs.operation_name.write_given_name.Goals as goal

pub returns : goal.returns
returns g c = search (rules, portion-padded)

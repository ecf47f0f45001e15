use Rattle.std.proofs.Common.{rules}
use Rattle.readers.proofs.Fronts.{portion-padded}
use Rattle.readers.proofs.Firsts.{here}
use Rattle.derived.proofs.span_fields.resource_service.Goals as goal

pub returns : goal.returns
returns g c = search (rules, portion-padded, here)

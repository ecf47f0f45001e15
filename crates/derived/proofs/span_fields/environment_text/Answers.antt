use Rattle.std.proofs.Common.{rules}
use Rattle.readers.proofs.Fronts.{portion-padded}
use Rattle.readers.proofs.Firsts.{here}
use Rattle.derived.proofs.span_fields.environment_text.Goals as goal

pub returns-in-Some : goal.returns-in-Some
returns-in-Some g c = search (rules, portion-padded, here)

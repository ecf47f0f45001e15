use Rattle.std.proofs.Common.{rules}
use Rattle.readers.proofs.Fronts.{portion-padded}
use Rattle.readers.proofs.otel_util.res_span_text.Goals as goal

pub returns : goal.returns
returns g c = search (rules, portion-padded)

use Rattle.std.proofs.Common.{rules}
use Rattle.conversion.proofs.EventAnswers.{nth-event_count}
use Rattle.conversion.proofs.dd_span.DdSpan.event_attribute_count.Goals as goal

pub returns : goal.returns
returns c = search (rules, nth-event_count)

use Rattle.std.proofs.Common.{rules}
use Rattle.conversion.proofs.EventAnswers.{event-count}
use Rattle.conversion.proofs.dd_span.DdSpan.event_count.Goals as goal

pub returns : goal.returns
returns c = search (rules, event-count)

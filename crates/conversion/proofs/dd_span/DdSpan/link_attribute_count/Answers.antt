use Rattle.std.proofs.Common.{rules}
use Rattle.conversion.proofs.LinkAnswers.{nth-link_count}
use Rattle.conversion.proofs.dd_span.DdSpan.link_attribute_count.Goals as goal

pub returns : goal.returns
returns c = search (rules, nth-link_count)

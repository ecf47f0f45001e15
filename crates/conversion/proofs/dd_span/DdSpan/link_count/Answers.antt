use Rattle.std.proofs.Common.{rules}
use Rattle.conversion.proofs.LinkAnswers.{link-count}
use Rattle.conversion.proofs.dd_span.DdSpan.link_count.Goals as goal

pub returns : goal.returns
returns c = search (rules, link-count)

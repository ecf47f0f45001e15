use Rattle.std.proofs.Common.{rules}
use Rattle.conversion.proofs.SingleLemmas.{singles}
use Rattle.conversion.proofs.unfinished.UnfinishedSpan.derived_text.Goals as goal

pub returns-then-not-lacks : goal.returns-then-not-lacks
returns-then-not-lacks g c = search (rules, singles)

pub returns-in-Service : goal.returns-in-Service
returns-in-Service g c = search (rules, singles)

pub returns-in-Name : goal.returns-in-Name
returns-in-Name g c = search (rules, singles)

pub returns-in-Resource : goal.returns-in-Resource
returns-in-Resource g c = search (rules, singles)

pub returns-in-SpanType : goal.returns-in-SpanType
returns-in-SpanType g c = search (rules, singles)

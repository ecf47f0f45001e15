use Rattle.std.proofs.Common.{rules}
use Rattle.blocks.specs.Facts.{row_facts, fact_at}
use Rattle.blocks.specs.Layout.{raw_of}
use Rattle.blocks.specs.Projections.{events_of}
use Rattle.conversion.proofs.EventAnswers.{no_value, value_there}
use Rattle.conversion.proofs.dd_span.DdSpan.event_attribute.Goals as goal

pub returns-in_err-row : goal.returns-in_err-row
returns-in_err-row c = search (rules, no_value)

pub returns : goal.returns
returns c =
    let b = c.args.self.now.made.block.now in
    value_there (events_of (row_facts b)) c.args.n c.args.i (fact_at b (raw_of c.in_ok-row.row)) _ _ (search rules) c.key.ensures c.value_of.ensures

use Rattle.std.proofs.Common.{rules}
use Rattle.blocks.specs.Facts.{row_facts, row_fact}
use Rattle.blocks.specs.Projections.{links_of}
use Rattle.conversion.proofs.LinkAnswers.{no_text, text_there}
use Rattle.conversion.proofs.dd_span.DdSpan.link_attribute.Goals as goal

pub returns-in_err-j : goal.returns-in_err-j
returns-in_err-j c = search (rules, no_text)

pub returns : goal.returns
returns c =
    let b = c.args.self.now.made.block.now in
    text_there (links_of (row_facts b)) c.args.n c.args.i (row_fact b c.in_ok-j.j) _ _ (search rules) (search rules) c.attribute_text.ensures

use Rattle.std.proofs.Common.{length, ap, sym, ◌∙◌}
use Rattle.blocks.specs.Facts.{row_fact, fact_at}
use Rattle.span_args.specs.ReadingOf.{datum_at}
use Rattle.conversion.specs.Forms.{string_form}
use Rattle.conversion.specs.Spans.{arena_for}
use Rattle.conversion.proofs.LinkLemmas.{link_text-none, link_text-some}
use Rattle.conversion.proofs.link_places.link_len.Goals as goal

pub returns-then-is_attribute-clause-len : goal.returns-then-is_attribute-clause-len
returns-then-is_attribute-clause-len c =
    let b = c.args.block.now in
    c.placed_len.ensures.len
    ∙ ap (λ r. length (arena_for (string_form (datum_at (fact_at b r))))) c.raw_row.ensures
    ∙ ap length (sym (link_text-some c.args.below (row_fact b c.args.i) (sym c.is_attribute.ensures ∙ c.if-is_attribute.true)))

pub returns-else-is_attribute-clause-len : goal.returns-else-is_attribute-clause-len
returns-else-is_attribute-clause-len c = ap length (sym (link_text-none c.args.below (row_fact c.args.block.now c.args.i) (sym c.is_attribute.ensures ∙ c.if-is_attribute.false)))

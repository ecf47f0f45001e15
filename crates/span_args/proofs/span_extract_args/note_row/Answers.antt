use Rattle.std.proofs.Common.{◌≡◌, ap, ◌∙◌}
use Rattle.blocks.specs.Facts.{fact_of}
use Rattle.blocks.specs.Lists.{list_number}
use Rattle.span_args.proofs.Noting.{named, of_list_lem}
use Rattle.span_args.proofs.span_extract_args.note_row.Goals as goal

pub returns-in-Ok-Span-clause-span : goal.returns-in-Ok-Span-clause-span
returns-in-Ok-Span-clause-span c =
    let e : (fact_of c.args.row.now).list ≡ list_number c.in-Ok-Span.field-0 = named _ _ _ c.in-Ok-Span.ensures.back in
    of_list_lem 0 c.args.i (fact_of c.args.row.now) _ _ (e ∙ ap list_number c.in-Ok-Span.field-0-is) c.note.ensures

pub returns-in-Ok-Resource-clause-resource : goal.returns-in-Ok-Resource-clause-resource
returns-in-Ok-Resource-clause-resource c =
    let e : (fact_of c.args.row.now).list ≡ list_number c.in-Ok-Resource.field-0 = named _ _ _ c.in-Ok-Resource.ensures.back in
    of_list_lem 1 c.args.i (fact_of c.args.row.now) _ _ (e ∙ ap list_number c.in-Ok-Resource.field-0-is) c.note-in-Ok-Resource.ensures

use Rattle.std.proofs.Common.{◌<◌, ◌≤◌, sym, refl, ap, ◌∙◌, arith}
use Rattle.names.proofs.Lasts.{lasts_none}
use Rattle.blocks.specs.Layout.{rows_in}
use Rattle.blocks.specs.Facts.{fact_of}
use Rattle.span_args.proofs.Rows.{noted-row, no_row, all-rows, read_by}
use Rattle.span_args.proofs.span_extract_args.SpanExtractArgs.of_block.Goals as goal
use Rattle.span_args.proofs.span_extract_args.SpanExtractArgs.of_block.Goals.{in-Ok, in_default}

pub loop-i-init : goal.loop-i-init
loop-i-init c = (c.default-span_attrs.ensures ∙ sym lasts_none, c.default-res_attrs.ensures ∙ sym lasts_none)

pub loop-i-preserved : goal.loop-i-preserved
loop-i-preserved c =
    let m = c.args.block.now in
    let lt : c.loop-i.i < rows_in m = omega (arith, c.loop-i-test.true, c.row_count-i-end.ensures) in
    elim c.match-numbered_row.branch [
      | in-Ok w ↦ (
        ap (λ a. a.places) w.span_attrs-is ∙ noted-row 0 m c.loop-i.i (fact_of w.in-Ok.row) _ _ lt w.in-Ok.ensures.by_number c.loop-i.invariant.0 w.note_row.ensures.span,
        ap (λ a. a.places) w.res_attrs-is ∙ noted-row 1 m c.loop-i.i (fact_of w.in-Ok.row) _ _ lt w.in-Ok.ensures.by_number c.loop-i.invariant.1 w.note_row.ensures.resource,
      )
      | in_default w ↦ absurd (no_row m c.loop-i.i lt w.in_default.ensures.by_number)
    ]

pub returns : goal.returns
returns c =
    let m = c.args.block.now in
    let le : rows_in m ≤ c.loop-i.i = omega (arith, c.loop-i-test.false, c.row_count-i-end.ensures) in
    record {
      block = refl;
      reading = read_by m _ _ (all-rows 0 m c.loop-i.i _ le c.loop-i.invariant.0) (all-rows 1 m c.loop-i.i _ le c.loop-i.invariant.1);
    }

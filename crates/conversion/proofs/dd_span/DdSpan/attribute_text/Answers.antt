use Rattle.std.proofs.Common.{ap, ◌∙◌, arith, rules}
use Rattle.conversion.specs.Spans.{bytes_of}
use Rattle.conversion.proofs.LinkRows.{row_lies, text_found}
use Rattle.conversion.proofs.dd_span.DdSpan.attribute_text.Goals as goal

pub overflow_add-at : goal.overflow_add-at
overflow_add-at c =
    let s = c.args.self.now in
    let h = row_lies s.made.block.now c.args.j c.requires s.made.arena.now s.links_at s.links_held in
    let w = h.within in
    let e = c.len_above.ensures in
    omega arith

pub returns : goal.returns
returns c =
    let s = c.args.self.now in
    c.piece_bytes.ensures ∙ ap bytes_of (text_found s.made.block.now s.made.arena.now c.args.j s.links_at c.len_above.result _ _ c.raw_row.result c.requires s.links_held (search rules) c.string_form-form.ensures (search rules) c.piece_at-piece.ensures)

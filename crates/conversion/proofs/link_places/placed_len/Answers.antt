use Rattle.std.proofs.Common.{ap, ◌∙◌, length}
use Rattle.conversion.specs.Spans.{arena_for}
use Rattle.conversion.proofs.LinkRows.{few_placed}
use Rattle.conversion.proofs.link_places.placed_len.Goals as goal

pub returns-clause-len : goal.returns-clause-len
returns-clause-len c = c.form_len.ensures c.args.block.now ∙ ap (λ t. length (arena_for t)) c.string_form.ensures

pub returns-clause-few : goal.returns-clause-few
returns-clause-few c = few_placed _ _ (c.form_len.ensures c.args.block.now ∙ ap (λ t. length (arena_for t)) c.string_form.ensures)

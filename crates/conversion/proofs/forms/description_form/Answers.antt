use Rattle.std.proofs.Common.{ap, sym, ◌∙◌}
use Rattle.conversion.specs.Steps.{is_error}
use Rattle.conversion.proofs.OwnLemmas.{described-error, described-none}
use Rattle.conversion.proofs.forms.description_form.Goals as goal

pub returns-then-is_error : goal.returns-then-is_error
returns-then-is_error c =
    c.header_form.ensures ∙ described-error c.args.block.now (ap is_error (sym c.status.ensures) ∙ sym c.is_error.ensures ∙ c.if-is_error.true)

pub returns-else-is_error : goal.returns-else-is_error
returns-else-is_error c =
    described-none c.args.block.now (ap is_error (sym c.status.ensures) ∙ sym c.is_error.ensures ∙ c.if-is_error.false)

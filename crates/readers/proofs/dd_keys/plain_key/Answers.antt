use Rattle.std.proofs.Common.{sym, ap, ◌∙◌}
use Rattle.std.proofs.lemmas.Bool.{cond-true, cond-false}
use Rattle.readers.specs.DatadogKeys.{header}
use Rattle.readers.proofs.dd_keys.plain_key.Goals as goal

pub returns-then-starts : goal.returns-then-starts
returns-then-starts c = ap header c.after.ensures ∙ sym (cond-true _ _ _ (sym c.if-starts.ensures))

pub returns-then-is_datadog_convention_key : goal.returns-then-is_datadog_convention_key
returns-then-is_datadog_convention_key c = sym (cond-false _ _ _ (sym c.if-starts.ensures) ∙ cond-true _ _ _ (sym c.if-is_datadog_convention_key.ensures))

pub returns-else-is_datadog_convention_key : goal.returns-else-is_datadog_convention_key
returns-else-is_datadog_convention_key c = sym (cond-false _ _ _ (sym c.if-starts.ensures) ∙ cond-false _ _ _ (sym c.if-is_datadog_convention_key.ensures))

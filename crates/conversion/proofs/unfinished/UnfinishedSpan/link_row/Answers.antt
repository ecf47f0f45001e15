use Rattle.std.proofs.Common.{rules}
use Rattle.conversion.proofs.Chains.{step_failed}
use Rattle.conversion.proofs.LinkLemmas.{link_text-none, link_text-some, placing-none, placing-held}
use Rattle.conversion.proofs.unfinished.UnfinishedSpan.link_row.Goals as goal

pub returns-then-not-is_attribute : goal.returns-then-not-is_attribute
returns-then-not-is_attribute c = search (rules, link_text-none, placing-none)

pub returns-in_err-hold_form : goal.returns-in_err-hold_form
returns-in_err-hold_form c = search (rules, step_failed, link_text-some, placing-held)

pub returns : goal.returns
returns c = search (rules, link_text-some, placing-held)

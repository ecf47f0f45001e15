use Rattle.std.proofs.Common.{rules}
use Rattle.conversion.proofs.Chains.{step_failed}
use Rattle.conversion.proofs.SingleLemmas.{singles}
use Rattle.conversion.specs.Steps.{derived_texts}
use Rattle.conversion.proofs.unfinished.UnfinishedSpan.derived_texts.Goals as goal

pub returns-in_err-derived_text : goal.returns-in_err-derived_text
unfolding derived_texts
returns-in_err-derived_text g c = search (rules, step_failed, singles)

pub returns-in_err-derived_text-2 : goal.returns-in_err-derived_text-2
unfolding derived_texts
returns-in_err-derived_text-2 g c = search (rules, step_failed, singles)

pub returns-in_err-derived_text-3 : goal.returns-in_err-derived_text-3
unfolding derived_texts
returns-in_err-derived_text-3 g c = search (rules, step_failed, singles)

pub returns : goal.returns
unfolding derived_texts
returns g c = search (rules, step_failed, singles)

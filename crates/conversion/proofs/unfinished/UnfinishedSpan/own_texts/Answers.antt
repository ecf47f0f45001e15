use Rattle.std.proofs.Common.{rules}
use Rattle.conversion.proofs.Chains.{step_failed}
use Rattle.conversion.proofs.SingleLemmas.{singles}
use Rattle.conversion.specs.Steps.{own_texts}
use Rattle.conversion.proofs.unfinished.UnfinishedSpan.own_texts.Goals as goal

pub returns-in_err-own_text : goal.returns-in_err-own_text
unfolding own_texts
returns-in_err-own_text g c = search (rules, step_failed, singles)

pub returns-in_err-own_text-2 : goal.returns-in_err-own_text-2
unfolding own_texts
returns-in_err-own_text-2 g c = search (rules, step_failed, singles)

pub returns-in_err-own_text-3 : goal.returns-in_err-own_text-3
unfolding own_texts
returns-in_err-own_text-3 g c = search (rules, step_failed, singles)

pub returns : goal.returns
unfolding own_texts
returns g c = search (rules, step_failed, singles)

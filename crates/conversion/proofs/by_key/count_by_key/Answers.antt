use Rattle.std.proofs.Common.{rules}
use Rattle.conversion.proofs.ByKeyLemmas.{no_count, counted}
use Rattle.conversion.proofs.by_key.count_by_key.Goals as goal

pub returns-in_err-run_under : goal.returns-in_err-run_under
returns-in_err-run_under c = search (rules, no_count)

pub returns : goal.returns
returns c = search (rules, counted)

use Rattle.std.proofs.Common.{rules}
use Rattle.conversion.proofs.Ways.{ways}
use Rattle.conversion.proofs.Grows.{grows}
use Rattle.conversion.proofs.Chains.{step_failed}
use Rattle.conversion.proofs.unfinished.UnfinishedSpan.put_metric.Goals as goal

pub returns-in_err-key-in-None : goal.returns-in_err-key-in-None
returns-in_err-key-in-None c = search (rules, step_failed, ways, grows)

pub returns-in-Some : goal.returns-in-Some
returns-in-Some c = search (rules, ways)

pub returns-in_ok-key-in-None : goal.returns-in_ok-key-in-None
returns-in_ok-key-in-None c = search (rules, ways)

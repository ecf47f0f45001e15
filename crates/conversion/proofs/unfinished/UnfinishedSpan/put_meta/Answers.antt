use Rattle.std.proofs.Common.{rules}
use Rattle.conversion.proofs.Ways.{ways}
use Rattle.conversion.proofs.Grows.{grows}
use Rattle.conversion.proofs.Chains.{step_failed}
use Rattle.conversion.proofs.unfinished.UnfinishedSpan.put_meta.Goals as goal

pub returns-in_err-value-in-Some : goal.returns-in_err-value-in-Some
returns-in_err-value-in-Some c = search (rules, step_failed, ways, grows)

pub returns-in_err-key-in-None : goal.returns-in_err-key-in-None
returns-in_err-key-in-None c = search (rules, step_failed, ways, grows)

pub returns-in_err-value-in-None : goal.returns-in_err-value-in-None
returns-in_err-value-in-None c = search (rules, step_failed, ways, grows)

pub returns-in_ok-value-in-Some : goal.returns-in_ok-value-in-Some
returns-in_ok-value-in-Some c = search (rules, ways)

pub returns-in_ok-value-in-None : goal.returns-in_ok-value-in-None
returns-in_ok-value-in-None c = search (rules, ways)

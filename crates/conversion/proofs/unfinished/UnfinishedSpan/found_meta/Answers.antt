use Rattle.std.proofs.Common.{◌≡◌, Some, rules}
use Rattle.conversion.proofs.AttributeLemmas.{found-rows}
use Rattle.conversion.proofs.MessageLemmas.{held_value}
use Rattle.conversion.proofs.unfinished.UnfinishedSpan.found_meta.Goals as goal

pub returns-in_err-row-clause-text : goal.returns-in_err-row-clause-text
returns-in_err-row-clause-text c = search (rules, found-rows)

pub returns-clause-text : goal.returns-clause-text
returns-clause-text c = search (rules, found-rows)

pub returns-clause-held : goal.returns-clause-held
returns-clause-held c =
    let e : c.first_text.result ≡ Some c.in_ok-row.row = search rules in
    held_value _ _ _ _ _ c.first_text.ensures e c.args.self.now.meta_held

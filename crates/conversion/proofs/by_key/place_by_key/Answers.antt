use Rattle.std.proofs.Common.{refl, rules}
use Rattle.blocks.specs.Facts.{row_fact, row_facts}
use Rattle.blocks.specs.Lists.{owned_list}
use Rattle.blocks.specs.Places.{run_rows}
use Rattle.blocks.specs.Projections.{of_list, owned_by}
use Rattle.conversion.proofs.ByKeyLemmas.{no_owner, no_key, row_answered}
use Rattle.conversion.proofs.UnderLemmas.{under_run}
use Rattle.conversion.proofs.by_key.place_by_key.Goals as goal

pub returns-in_err-run-clause-row : goal.returns-in_err-run-clause-row
returns-in_err-run-clause-row c = search (rules, no_owner)

pub returns-in_err-first-clause-row : goal.returns-in_err-first-clause-row
returns-in_err-first-clause-row c = search (rules, no_key)

pub returns-clause-row : goal.returns-clause-row
returns-clause-row c =
    let b = c.args.block.now in
    let rows = of_list (owned_list c.args.owner) (run_rows b c.in_ok-run.run') in
    row_answered b (owned_by c.args.owner (row_facts b)) c.args.n c.args.i c.in_ok-first.first c.unwrap_or.result c.last_with_key.result rows c.key-key.result.now (row_fact b c.unwrap_or.result) (search rules) (search rules) (search rules) c.last_with_key.ensures.row c.unwrap_or.ensures refl

pub returns-clause-under : goal.returns-clause-under
returns-clause-under c = under_run _ _ _ _ _ _ c.in_ok-run.ensures.behind c.in_ok-first.ensures.within c.in_ok-first.ensures.list c.last_with_key.ensures.within c.last_with_key.ensures.list c.unwrap_or.ensures

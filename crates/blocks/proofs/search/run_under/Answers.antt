use Rattle.std.proofs.Common.{◌-◌, ◌∙◌, rules}
use Rattle.std.specs.List.{slice_get}
use Rattle.blocks.specs.Lists.{owner_list}
use Rattle.blocks.specs.Places.{places_of}
use Rattle.blocks.proofs.Projected.{under_none, under_run, run_behind}
use Rattle.blocks.proofs.search.run_under.Goals as goal

pub returns-in_err-from-clause-run : goal.returns-in_err-from-clause-run
returns-in_err-from-clause-run c = search (rules, under_none)

pub returns-clause-run : goal.returns-clause-run
returns-clause-run c = search (rules, under_run)

pub returns-clause-behind : goal.returns-clause-behind
returns-clause-behind c =
    let b = c.args.block.now in
    let n = c.args.n in
    let place = c.in_ok-from.ensures.place ∙ (λ i. slice_get (places_of b (c.list-list.ensures i) (c.all.ensures i).start ((c.all.ensures i).end - (c.all.ensures i).start)) n) in
    run_behind b (owner_list c.args.owner) n c.in_ok-from.field-0 _ c.read-rows.result c.find-2.result c.read-rows.ensures place c.find-2.ensures.within c.unwrap_or-to.ensures

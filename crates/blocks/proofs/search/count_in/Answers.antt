use Rattle.std.proofs.Common.{refl, ◌∙◌, rules, tests}
use Rattle.std.proofs.lemmas.Iterator.{YieldsList-from_range}
use Rattle.std.proofs.lemmas.Iterator.Consumers.{count_from_yields_List, YieldsList-from_filter}
use Rattle.blocks.specs.Lists.{list_number}
use Rattle.blocks.specs.Places.{is_of, places_of}
use Rattle.blocks.proofs.Projected.{length-list}
use Rattle.blocks.proofs.search.count_in.Goals as goal

pub returns : goal.returns
unfolding places_of
returns c =
    count_from_yields_List c.filter.result _ c.count.ensures.ran (YieldsList-from_filter _ (is_of c.args.block.now (list_number c.args.list)) (YieldsList-from_range _ _ _ (cc) refl) c.filter.ensures.closure (λ x b q k. search (rules, tests)))
    ∙ length-list c.args.block.now (list_number c.args.list) c.args.run.start _

use Rattle.std.proofs.Common.{refl, sym, ◌∙◌, rules, tests}
use Rattle.std.proofs.lemmas.Iterator.Adapters.{option_map_id}
use Rattle.std.proofs.lemmas.Iterator.{YieldsList-from_range}
use Rattle.std.proofs.lemmas.Iterator.Consumers.{nth_from_yields_List, YieldsList-from_filter}
use Rattle.blocks.specs.Lists.{list_number}
use Rattle.blocks.specs.Places.{is_of, places_of}
use Rattle.blocks.proofs.search.find.Goals as goal

pub returns-clause-place : goal.returns-clause-place
unfolding places_of
returns-clause-place c = sym (option_map_id _) ∙ nth_from_yields_List _ _ _ c.nth.ensures.ran (YieldsList-from_filter _ (is_of c.args.block.now (list_number c.args.list)) (YieldsList-from_range _ _ _ (cc) refl) c.filter.ensures.closure (λ x b q k. search (rules, tests)))

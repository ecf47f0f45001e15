use Rattle.std.proofs.Common.{◌-◌, ap, refl, sym, ◌∙◌, rules, tests}
use Rattle.std.specs.Option.{option_map}
use Rattle.std.proofs.lemmas.Iterator.Adapters.{option_map_id}
use Rattle.std.proofs.lemmas.Iterator.{YieldsList-from_range}
use Rattle.std.proofs.lemmas.Iterator.Consumers.{nth_from_yields_List, YieldsList-from_filter}
use Rattle.blocks.specs.Lists.{owned_list}
use Rattle.conversion.specs.ByKey.{key_at, is_first}
use Rattle.conversion.proofs.ByKeyLemmas.{nth-key}
use Rattle.conversion.proofs.UnderLemmas.{first_list}
use Rattle.conversion.proofs.by_key.first_with_key.Goals as goal

pub returns-clause-key : goal.returns-clause-key
returns-clause-key c =
    ap (option_map (key_at c.args.block.now))
    (sym (option_map_id _)
    ∙ nth_from_yields_List _ _ _ c.nth.ensures.ran (YieldsList-from_filter _ (is_first c.args.block.now (owned_list c.args.owner) c.args.run.start) (YieldsList-from_range _ _ _ (cc) refl) c.filter.ensures.closure (λ x b q k. search (rules, tests))))
    ∙ nth-key c.args.block.now (owned_list c.args.owner) c.args.run.start (c.args.run.end - c.args.run.start) c.args.n

pub returns-clause-list : goal.returns-clause-list
returns-clause-list c =
    first_list c.args.block.now (owned_list c.args.owner) c.args.run.start (c.args.run.end - c.args.run.start) c.args.n c.nth.result
    (sym (option_map_id _)
    ∙ nth_from_yields_List _ _ _ c.nth.ensures.ran (YieldsList-from_filter _ (is_first c.args.block.now (owned_list c.args.owner) c.args.run.start) (YieldsList-from_range _ _ _ (cc) refl) c.filter.ensures.closure (λ x b q k. search (rules, tests))))

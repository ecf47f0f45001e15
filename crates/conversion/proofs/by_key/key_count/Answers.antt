use Rattle.std.proofs.Common.{◌-◌, refl, ◌∙◌, rules, tests}
use Rattle.std.proofs.lemmas.Iterator.{YieldsList-from_range}
use Rattle.std.proofs.lemmas.Iterator.Consumers.{count_from_yields_List, YieldsList-from_filter}
use Rattle.blocks.specs.Lists.{owned_list}
use Rattle.conversion.specs.ByKey.{is_first}
use Rattle.conversion.proofs.ByKeyLemmas.{length-keys}
use Rattle.conversion.proofs.by_key.key_count.Goals as goal

pub returns : goal.returns
returns c =
    count_from_yields_List c.filter.result _ c.count.ensures.ran (YieldsList-from_filter _ (is_first c.args.block.now (owned_list c.args.owner) c.args.run.start) (YieldsList-from_range _ _ _ (cc) refl) c.filter.ensures.closure (λ x b q k. search (rules, tests)))
    ∙ length-keys c.args.block.now (owned_list c.args.owner) c.args.run.start (c.args.run.end - c.args.run.start)

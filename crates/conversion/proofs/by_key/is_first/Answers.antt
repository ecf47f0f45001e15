use Rattle.std.proofs.Common.{refl, ap, ◌∙◌, ◌==◌, rules, tests}
use Rattle.std.proofs.lemmas.Iterator.{YieldsList-from_range}
use Rattle.std.proofs.lemmas.Iterator.Search.{any_from_yields_List}
use Rattle.blocks.specs.Facts.{row_fact}
use Rattle.blocks.specs.Lists.{owned_list}
use Rattle.conversion.specs.ByKey.{key_at, has_key}
use Rattle.conversion.proofs.ByKeyLemmas.{first-there, first-not}
use Rattle.conversion.proofs.by_key.is_first.Goals as goal

pub returns-then-is_in : goal.returns-then-is_in
returns-then-is_in c =
    let b = c.args.block.now in
    let l = owned_list c.args.owner in
    let above = any_from_yields_List (λ j. has_key l (key_at b c.args.i) (row_fact b j)) _ _ c.any.result c.any.ensures.ran (YieldsList-from_range c.args.start c.args.i _ (cc) refl) (λ x t q h. search (rules, tests)) in
    first-there b l c.args.start c.args.i _ _ (c.is_in.ensures ∙ ap (λ n. (row_fact b c.args.i).list == n) c.owned.ensures) c.if-is_in.true above

pub returns-else-is_in : goal.returns-else-is_in
returns-else-is_in c =
    let b = c.args.block.now in
    let l = owned_list c.args.owner in
    first-not b l c.args.start c.args.i _ (c.is_in.ensures ∙ ap (λ n. (row_fact b c.args.i).list == n) c.owned.ensures) c.if-is_in.false

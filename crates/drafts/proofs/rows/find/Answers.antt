use Rattle.std.proofs.Common.{◌≡◌, ◌-◌, sym, refl, ap, ◌∙◌, rules}
use Rattle.std.proofs.lemmas.Iterator.{YieldsList-from_range}
use Rattle.std.proofs.lemmas.Iterator.Adapters.{option_map_id}
use Rattle.std.proofs.lemmas.Iterator.Search.{find_from_yields_List}
use Rattle.std.specs.List.{find, range_with_len}
use Rattle.blocks.specs.Lists.{list_number}
use Rattle.blocks.specs.Layout.{rows_in}
use Rattle.drafts.proofs.Places.{is_keyed, found-keyed}
use Rattle.drafts.proofs.rows.find.Goals as goal

pub returns : goal.returns
returns c =
    let m = c.args.m.now in
    let l = list_number c.args.list in
    let k = c.args.key.now in
    let i = c.run_start.result in
    let n = c.read.result in
    let r : n ≡ rows_in m = search rules in
    let e = find_from_yields_List (is_keyed m l k) _ _ _ c.find.ensures.ran (YieldsList-from_range i n (n - i) refl refl) (λ x b q h. search rules) in
    sym (option_map_id c.find.result) ∙ e ∙ ap (λ j. find (is_keyed m l k) (range_with_len i (j - i))) r ∙ found-keyed m l k i c.run_start.ensures.within ∙ c.run_start.ensures.same k

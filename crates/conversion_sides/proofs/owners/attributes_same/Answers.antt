use Rattle.std.proofs.Common.{ℕ, Bool, arith, sym, ap, ◌∙◌, rules, tests}
use Rattle.std.specs.List.{list_all, range_with_len}
use Rattle.std.proofs.lemmas.Iterator.{YieldsList-from_range}
use Rattle.std.proofs.lemmas.Iterator.Search.{all_from_yields_List}
use Rattle.std.proofs.lemmas.Bool.{eq-eqb}
use Rattle.conversion.specs.View.{shown}
use Rattle.conversion_sides.specs.declared.standing.Standing.TheVariants.{Same}
use Rattle.conversion_sides.specs.Standings.{is_standing}
use Rattle.conversion_sides.specs.Owners.{attribute_standing}
use Rattle.conversion_sides.proofs.Counts.{and-given}
use Rattle.conversion_sides.proofs.owners.attributes_same.Goals as goal

pub returns-then-count-attribute_count : goal.returns-then-count-attribute_count
returns-then-count-attribute_count c =
    let n = c.attribute_count-count.result in
    let test : ℕ → Bool = λ i. is_standing (attribute_standing c.args.owner (shown c.args.a.now) (shown c.args.b.now) c.args.n i) Same in
    let all = all_from_yields_List test _ _ c.all.result c.all.ensures.ran (YieldsList-from_range 0 n n (cc) (omega arith)) (λ x b q h. search (rules, tests)) in
    and-given _ _ _ (eq-eqb _ _ (sym c.attribute_count-count.ensures ∙ c.if-count-attribute_count.true ∙ c.attribute_count.ensures)) (all ∙ ap (λ k. list_all test (range_with_len 0 k)) c.attribute_count-count.ensures)

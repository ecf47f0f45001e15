use Rattle.std.proofs.Common.{ℕ, Bool, arith, ap, ◌∙◌, length, filter, rules, tests}
use Rattle.std.specs.List.{range_with_len}
use Rattle.std.proofs.lemmas.Iterator.{YieldsList-from_range}
use Rattle.std.proofs.lemmas.Iterator.Consumers.{count_from_yields_List, YieldsList-from_filter}
use Rattle.conversion.specs.View.{shown}
use Rattle.conversion_sides.specs.Standings.{is_standing}
use Rattle.conversion_sides.specs.Owners.{owner_standing}
use Rattle.conversion_sides.proofs.owners.owners_so.Goals as goal

pub returns : goal.returns
returns c =
    let test : ℕ → Bool = λ n. is_standing (owner_standing c.args.owner (shown c.args.a.now) (shown c.args.b.now) n) c.args.standing in
    count_from_yields_List c.filter.result _ c.count.ensures.ran (YieldsList-from_filter _ test (YieldsList-from_range 0 c.owner_count.result c.owner_count.result (cc) (omega arith)) c.filter.ensures.closure (λ x b q k. search (rules, tests)))
    ∙ ap (λ n. length (filter test (range_with_len 0 n))) c.owner_count.ensures

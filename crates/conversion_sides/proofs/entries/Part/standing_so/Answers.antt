use Rattle.std.proofs.Common.{arith, ap, ◌∙◌, length, filter, rules, tests}
use Rattle.std.specs.List.{range_with_len}
use Rattle.std.proofs.lemmas.Iterator.{YieldsList-from_range}
use Rattle.std.proofs.lemmas.Iterator.Consumers.{count_from_yields_List, YieldsList-from_filter}
use Rattle.conversion.specs.View.{shown}
use Rattle.conversion_sides.specs.Entries.{stands_so}
use Rattle.conversion_sides.proofs.entries.Part.standing_so.Goals as goal

pub returns : goal.returns
returns c =
    let test = stands_so c.args.self (shown c.args.a.now) (shown c.args.b.now) c.args.standing c.args.left_out in
    count_from_yields_List c.filter.result _ c.count-2.ensures.ran (YieldsList-from_filter _ test (YieldsList-from_range 0 c.count.result c.count.result (cc) (omega arith)) c.filter.ensures.closure (λ x b q k. search (rules, tests)))
    ∙ ap (λ n. length (filter test (range_with_len 0 n))) c.count.ensures

use Rattle.std.proofs.Common.{Bool, rules, tests}
use Rattle.std.proofs.lemmas.Iterator.{YieldsList-from_slice}
use Rattle.std.proofs.lemmas.Iterator.Consumers.{count_from_yields_List, YieldsList-from_filter}
use Rattle.conversion.specs.View.{shown}
use Rattle.conversion_sides.specs.declared.standing.Standing.TheVariants.{Differs}
use Rattle.conversion_sides.specs.declared.fields.Field.{Field}
use Rattle.conversion_sides.specs.Standings.{is_standing}
use Rattle.conversion_sides.specs.Fields.{field_standing, all_fields, fields_apart}
use Rattle.conversion_sides.proofs.fields.fields_apart.Goals as goal

pub returns : goal.returns
unfolding fields_apart
returns c =
    let test : Field → Bool = λ f. is_standing (field_standing f (shown c.args.a.now) (shown c.args.b.now)) Differs in
    count_from_yields_List c.filter.result _ c.count.ensures.ran (YieldsList-from_filter {ys = all_fields} _ test (YieldsList-from_slice all_fields (cc)) c.filter.ensures.closure (λ x b q k. search (rules, tests)))

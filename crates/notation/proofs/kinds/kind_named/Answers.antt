use Rattle.std.proofs.Common.{rules, ◌∙◌}
use borrow.Author.Tests.{tests}
use Rattle.std.proofs.Math.Nat.{div-one}
use Rattle.std.proofs.lemmas.Iterator.{YieldsList-from_slice}
use Rattle.std.proofs.lemmas.Iterator.Search.{find_from_yields_List}
use Rattle.std.specs.Str.{bytes_eq}
use Rattle.values.specs.KindNames.{name_of_kind}
use Rattle.notation.proofs.Names.{kinds, kind_back, found}
use Rattle.notation.proofs.kinds.kind_named.Goals as goal

pub returns-clause-value : goal.returns-clause-value
returns-clause-value c =
    let e = find_from_yields_List (λ k. bytes_eq (name_of_kind k) c.args.name.now) _ _ c.find.result c.find.ensures.ran (YieldsList-from_slice kinds (search rules)) (λ x b q k. search (rules, tests)) in
    let h = e ∙ found c.args.name.now in search (rules, kind_back, div-one)

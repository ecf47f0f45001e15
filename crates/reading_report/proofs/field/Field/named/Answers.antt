use Rattle.std.proofs.Common.{rules, List, [], ◌∷◌}
use borrow.Author.Tests.{tests}
use Rattle.std.proofs.lemmas.Iterator.{YieldsList-from_slice}
use Rattle.std.proofs.lemmas.Iterator.Search.{find_from_yields_List}
use Rattle.std.specs.Str.{bytes_eq}
use Rattle.reading_report.specs.Names.{field_word}
use Rattle.reading_report.specs.declared.field.Field.{Field}
use Rattle.reading_report.specs.declared.field.Field.TheVariants.{Name, Resource, SpanType, Service, Environment, StatusCode}
use Rattle.reading_report.proofs.field.Field.named.Goals as goal

abbrev fields : List Field
fields = Name ∷ Resource ∷ SpanType ∷ Service ∷ Environment ∷ StatusCode ∷ []

pub returns-clause-value : goal.returns-clause-value
returns-clause-value c =
    let e = find_from_yields_List (λ f. bytes_eq (field_word f) c.args.word.now) _ _ c.find.result c.find.ensures.ran (YieldsList-from_slice fields (search rules)) (λ x b q k. search (rules, tests)) in
    search rules

use Rattle.std.proofs.Common.{rules, ◌∷◌, []}
use borrow.Author.Tests.{tests}
use Rattle.std.proofs.lemmas.Iterator.{YieldsList-from_slice}
use Rattle.std.proofs.lemmas.Iterator.Search.{find_from_yields_List}
use Rattle.std.specs.Str.{bytes_eq}
use Rattle.blocks.specs.declared.span_kind.StatusCode.TheVariants.{Unset, Ok, Error}
use Rattle.blocks.specs.Names.{status_name}
use Rattle.draft.proofs.words.status_named.Goals as goal

pub returns-clause-value : goal.returns-clause-value
returns-clause-value c =
    let e = find_from_yields_List (λ x. bytes_eq (status_name x) c.args.word.now) _ _ c.find.result c.find.ensures.ran (YieldsList-from_slice (Unset ∷ Ok ∷ Error ∷ []) (search rules)) (λ x b q k. search (rules, tests)) in
    search rules

use Rattle.std.proofs.Common.{rules, tests, ap, ◌∙◌}
use Rattle.std.specs.Str.{bytes_eq}
use Rattle.std.specs.Option.{option_map}
use Rattle.std.proofs.lemmas.Iterator.{YieldsList-from_slice}
use Rattle.std.proofs.lemmas.Iterator.Search.{position_from_yields_List}
use Rattle.readers.specs.Tables.{text_at}
use Rattle.readers.specs.declared.tables.Entry.{Entry}
use Rattle.readers.proofs.Entries.{place_found}
use Rattle.readers.proofs.tables.place_in.Goals as goal

pub returns : goal.returns
returns c =
    let test = λ (e : Entry). bytes_eq e.from.now c.args.text.now in
    let found = position_from_yields_List test _ _ _ c.position.ensures.ran (YieldsList-from_slice c.args.table.now cc) (λ x b q h. search (rules, tests)) in
    ap (option_map (text_at c.args.table.now)) found ∙ place_found c.args.text.now c.args.table.now

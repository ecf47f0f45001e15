use Rattle.std.proofs.Common.{rules, tests}
use Rattle.std.specs.Str.{bytes_eq}
use Rattle.std.proofs.lemmas.Iterator.{YieldsList-from_slice}
use Rattle.std.proofs.lemmas.Iterator.Search.{find_from_yields_List}
use Rattle.readers.specs.declared.tables.Entry.{Entry}
use Rattle.readers.proofs.Entries.{entry_found}
use Rattle.readers.proofs.tables.find.Goals as goal

pub returns : goal.returns
returns c =
    let test = λ (e : Entry). bytes_eq e.from.now c.args.text.now in
    let found = find_from_yields_List test _ _ c.find.result c.find.ensures.ran (YieldsList-from_slice c.args.table.now cc) (λ x b q h. search (rules, tests)) in
    let entry = entry_found c.args.text.now c.args.table.now in
    search rules

pub returns-in_err-entry : goal.returns-in_err-entry
returns-in_err-entry c =
    let test = λ (e : Entry). bytes_eq e.from.now c.args.text.now in
    let found = find_from_yields_List test _ _ c.find.result c.find.ensures.ran (YieldsList-from_slice c.args.table.now cc) (λ x b q h. search (rules, tests)) in
    let entry = entry_found c.args.text.now c.args.table.now in
    search rules

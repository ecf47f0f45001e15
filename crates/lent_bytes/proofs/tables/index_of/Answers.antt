use Rattle.std.proofs.Common.{ℕ, List, Bor, rules, tests}
use Rattle.std.specs.Str.{bytes_eq}
use Rattle.std.proofs.lemmas.Iterator.{YieldsList-from_slice}
use Rattle.std.proofs.lemmas.Iterator.Search.{position_from_yields_List}
use Rattle.std.proofs.lemmas.Iterator.Adapters.{position_from-zero}
use Rattle.lent_bytes.proofs.Index.{looked_from}
use Rattle.lent_bytes.proofs.tables.index_of.Goals as goal

pub returns : goal.returns
returns c =
    let test = λ (t : Bor (List ℕ)). bytes_eq t.now c.args.key.now in
    let found = position_from_yields_List test _ _ _ c.position.ensures.ran (YieldsList-from_slice c.args.table.now cc) (λ x b q h. search (rules, tests)) in
    let counted = position_from-zero test c.args.table.now in
    let looked = looked_from 0 c.args.key.now c.args.table.now in
    search rules

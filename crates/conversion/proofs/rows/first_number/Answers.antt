use Rattle.std.proofs.Common.{rules, tests}
use Rattle.std.specs.Str.{bytes_eq}
use Rattle.std.proofs.lemmas.Iterator.{YieldsList-from_slice}
use Rattle.std.proofs.lemmas.Iterator.Search.{find_from_yields_List}
use Rattle.conversion.specs.Spans.{bytes_of}
use Rattle.conversion.specs.Pieces.{piece_text}
use Rattle.conversion.proofs.rows.first_number.Goals as goal

pub returns : goal.returns
returns c =
    let found = find_from_yields_List (λ r. bytes_eq (bytes_of (piece_text c.args.block.now c.args.arena.now r.key)) c.args.key.now) _ _ c.find.result c.find.ensures.ran (YieldsList-from_slice c.args.rows.now cc) (λ x b q h. search (rules, tests)) in
    search rules

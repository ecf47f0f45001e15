use Rattle.std.proofs.Common.{rules, tests, ◌&&◌, ◌==◌}
use Rattle.std.specs.Str.{bytes_eq}
use Rattle.std.proofs.lemmas.Iterator.{YieldsList-from_slice}
use Rattle.std.proofs.lemmas.Iterator.Search.{find_from_yields_List}
use Rattle.conversion.specs.Spans.{bytes_of}
use Rattle.conversion.specs.Pieces.{piece_text}
use Rattle.conversion.specs.Digests.{digest}
use Rattle.conversion.proofs.DigestLemmas.{same_find}
use Rattle.conversion.proofs.rows.first_text.Goals as goal

pub returns : goal.returns
returns c =
    let b = c.args.block.now in
    let a = c.args.arena.now in
    let k = c.args.key.now in
    let found = find_from_yields_List (λ r. r.digest == digest k && bytes_eq (bytes_of (piece_text b a r.key)) k) _ _ c.find.result c.find.ensures.ran (YieldsList-from_slice c.args.rows.now cc) (λ x y q h. search (rules, tests)) in
    let same = same_find b a k c.args.rows.now c.requires in
    search rules

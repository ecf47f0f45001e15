use Rattle.std.proofs.Common.{rules, tests, ◌&&◌, ◌==◌, ◌∙◌}
use Rattle.std.specs.Str.{bytes_eq}
use Rattle.std.proofs.lemmas.Iterator.{YieldsList-from_slice}
use Rattle.std.proofs.lemmas.Iterator.Search.{position_from_yields_List}
use Rattle.conversion.specs.Spans.{bytes_of}
use Rattle.conversion.specs.Pieces.{piece_text}
use Rattle.conversion.specs.Digests.{digest}
use Rattle.conversion.proofs.DigestLemmas.{same_position}
use Rattle.conversion.proofs.rows.find_text.Goals as goal

pub returns : goal.returns
returns c =
    let b = c.args.block.now in
    let a = c.args.arena.now in
    let k = c.args.key.now in
    position_from_yields_List (λ r. r.digest == digest k && bytes_eq (bytes_of (piece_text b a r.key)) k) _ _ _ c.position.ensures.ran (YieldsList-from_slice c.args.rows.now cc) (λ x y q h. search (rules, tests))
    ∙ same_position b a k c.args.rows.now c.requires

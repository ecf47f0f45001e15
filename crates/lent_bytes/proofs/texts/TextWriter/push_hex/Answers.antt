use Rattle.std.proofs.Common.{◌≡◌, ◌+◌, [], ◌∷◌, ◌++◌, get_or, take, sym, ap, ◌∙◌, arith}
use Rattle.std.specs.List.{flat_map}
use Rattle.std.proofs.lemmas.List.{take_more, flat_map_more}
use Rattle.lent_bytes.specs.Digits.{hex_pair}
use Rattle.lent_bytes.proofs.Writers.{wrote_more, wrote_none}
use Rattle.lent_bytes.proofs.texts.TextWriter.push_hex.Goals as goal

pub loop-b-init : goal.loop-b-init
loop-b-init c = wrote_none _

pub loop-b-preserved : goal.loop-b-preserved
loop-b-preserved c =
    let p = wrote_more _ _ _ _ _ c.loop-b.invariant c.push.ensures in
    let xs = c.args.bytes.now in
    let i = c.loop-b.b-index in
    let m : flat_map hex_pair (take (i + 1) xs) ≡ flat_map hex_pair (take i xs) ++ hex_pair (get_or xs i 0) = ap (flat_map hex_pair) (take_more xs i 0 (omega arith)) ∙ sym (flat_map_more hex_pair [] (take i xs) (get_or xs i 0)) in
    let h : c.hex_digit.result ∷ c.hex_digit-in-loop-b.result ∷ [] ≡ hex_pair (get_or xs i 0) = cc in
    rw (m, ← h) p

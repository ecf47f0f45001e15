use Rattle.std.proofs.Common.{◌≡◌, ◌+◌, ◌++◌, length, ap, ◌∙◌, length-append, arith}
use Rattle.lent_bytes.specs.Fields.{bytes4}
use Rattle.drafts.proofs.Wrapped.{four-wraps}
use Rattle.drafts.proofs.write.put_row.Goals as goal

pub returns : goal.returns
returns c =
    let n = c.read-used.result + length c.args.first.now + length c.args.second.now in
    let s : n ≡ c.read-used.result + length (c.args.first.now ++ c.args.second.now) = omega (arith, length-append c.args.first.now c.args.second.now) in
    let e : c.low-end.result ≡ bytes4 (c.read-used.result + length (c.args.first.now ++ c.args.second.now)) = c.low-end.ensures ∙ four-wraps n ∙ ap bytes4 s in
    cc

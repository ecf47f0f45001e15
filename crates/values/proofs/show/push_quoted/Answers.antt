use Rattle.lent_bytes.proofs.Writers.{wrote_more}
use Rattle.std.proofs.Common.{rules}
use Rattle.values.proofs.show.push_quoted.Goals as goal

pub returns : goal.returns
returns c =
    let p = wrote_more _ _ _ _ _ c.push-2.ensures c.push-3.ensures in
    let q = wrote_more _ _ _ _ _ p c.push-4.ensures in
    search rules

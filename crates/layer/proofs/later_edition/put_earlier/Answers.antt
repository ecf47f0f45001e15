use Rattle.std.proofs.Common.{arith, rules}
use Rattle.lent_bytes.specs.Memory.{portion}
use Rattle.layer.proofs.Earlier.{placed}
use Rattle.layer.proofs.later_edition.put_earlier.Goals as goal

pub returns-in-Some : goal.returns-in-Some
returns-in-Some c =
    let p = placed (portion c.args.out.now 0 c.args.n) c.part.result.now _ _ _ _ (omega arith) c.part.ensures c.in-Some.ensures c.write_text.ensures in
    search rules

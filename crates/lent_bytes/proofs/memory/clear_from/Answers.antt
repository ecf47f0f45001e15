use Rattle.std.proofs.Common.{length, refl, rules}
use Rattle.lent_bytes.proofs.Clips.{finished}
use Rattle.lent_bytes.proofs.memory.clear_from.Goals as goal

pub returns : goal.returns
returns c = finished (length c.args.m.now) c.args.n c.min-at.result c.args.m.now _ refl c.min-at.ensures (search rules)

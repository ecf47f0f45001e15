use Rattle.std.proofs.Common.{rules}
use Rattle.lent_bytes.proofs.Writers.{wrote_none}
use Rattle.values.proofs.show.push_comma.Goals as goal

pub returns-then-first : goal.returns-then-first
returns-then-first c = let n = wrote_none c.args.out.now in search rules

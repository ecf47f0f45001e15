use Rattle.std.proofs.Common.{rules}
use Rattle.lent_bytes.specs.Fields.{bytes8}
use Rattle.lent_bytes.proofs.Frames.{written_append}
use Rattle.drafts.proofs.typed.put_double.Goals as goal

pub returns : goal.returns
returns c = let h = written_append c.args.out.now 0 (bytes8 c.args.pattern) c.args.text.now in search rules

use Rattle.std.proofs.Common.{rules}
use Rattle.lent_bytes.proofs.Frames.{written_append}
use Rattle.drafts.proofs.write.put_texts.Goals as goal

pub returns : goal.returns
returns c = search (rules, written_append)

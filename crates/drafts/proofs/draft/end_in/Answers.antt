use Rattle.std.proofs.Common.{rules}
use Rattle.drafts.specs.Writes.{ended}
use Rattle.drafts.proofs.draft.end_in.Goals as goal

pub returns : goal.returns
unfolding ended
returns c = search rules

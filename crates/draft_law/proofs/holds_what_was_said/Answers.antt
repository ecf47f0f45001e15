use Rattle.draft_law.proofs.Closed.{holds_what_was_said_lem}
use Rattle.draft_law.proofs.holds_what_was_said.Goals as goal

pub returns : goal.returns
returns c = holds_what_was_said_lem

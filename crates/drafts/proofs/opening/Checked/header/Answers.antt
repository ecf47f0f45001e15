use Rattle.drafts.specs.Calls.{opening_of}
use Rattle.drafts.proofs.Started.{head_is}
use Rattle.drafts.proofs.opening.Checked.header.Goals as goal

pub returns : goal.returns
returns c = let h = head_is (opening_of c.args.self.now.start.now) in cc

use Rattle.std.proofs.Common.{length}
use Rattle.drafts.specs.Calls.{opening_of}
use Rattle.drafts.proofs.Started.{started_is}
use Rattle.drafts.proofs.opening.Checked.start_in.Goals as goal

pub returns : goal.returns
returns c = started_is (length c.args.m.now) (opening_of c.args.self.now.start.now) _ _ _ _ c.clear.ensures c.header-head.ensures c.write.ensures c.put_opening.ensures

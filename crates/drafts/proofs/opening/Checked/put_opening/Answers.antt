use Rattle.std.proofs.Common.{refl}
use Rattle.drafts.specs.Calls.{opening_of}
use Rattle.drafts.proofs.Started.{texts-behind}
use Rattle.drafts.proofs.opening.Checked.put_opening.Goals as goal

pub returns : goal.returns
returns c = let h = texts-behind c.args.m.now c.args.at _ (opening_of c.args.self.now.start.now) refl in cc

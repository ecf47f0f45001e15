use Rattle.std.proofs.Common.{rules}
use Rattle.conversion.specs.Digests.{digest}
use Rattle.conversion.proofs.digests.digest.Goals as goal

pub returns : goal.returns
unfolding digest
returns c = search rules

use Rattle.conversion_law.proofs.NeverClipped.{never_clipped_lem}
use Rattle.conversion_law.proofs.never_clipped.Goals as goal

pub returns : goal.returns
returns c = never_clipped_lem

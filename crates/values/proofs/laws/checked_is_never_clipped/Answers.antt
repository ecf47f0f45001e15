use Rattle.values.proofs.Unclipped.{checked_is_never_clipped_lem}
use Rattle.values.proofs.laws.checked_is_never_clipped.Goals as goal

pub returns : goal.returns
returns c = checked_is_never_clipped_lem

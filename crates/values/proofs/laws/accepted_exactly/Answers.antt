use Rattle.values.proofs.Readback.{read_back}
use Rattle.values.proofs.Writeback.{written_back}
use Rattle.values.proofs.laws.accepted_exactly.Goals as goal

pub returns : goal.returns
returns c n b d h = (written_back n b d h, read_back n b d)

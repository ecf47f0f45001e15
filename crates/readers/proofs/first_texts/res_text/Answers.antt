use Rattle.std.proofs.Common.{rules}
use Rattle.readers.proofs.Fronts.{portion-padded}
use Rattle.readers.proofs.first_texts.res_text.Goals as goal

pub returns : goal.returns
returns g c = search (rules, portion-padded)

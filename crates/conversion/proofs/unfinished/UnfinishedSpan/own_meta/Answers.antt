use Rattle.conversion.proofs.OwnLemmas.{own-put}
use Rattle.conversion.proofs.unfinished.UnfinishedSpan.own_meta.Goals as goal

pub returns : goal.returns
returns c = rw (own-put, ← c.last_string-value.ensures) c.put_given.ensures

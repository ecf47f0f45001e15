use Rattle.std.proofs.Common.{length, take, ◌∙◌}
use Rattle.std.proofs.lemmas.Cmp.{nat_list_eq_equiv}
use Rattle.lent_bytes.specs.Memory.{portion}
use Rattle.readers.proofs.dd_keys.starts.Goals as goal

pub returns : goal.returns
unfolding portion
returns c = c.starts_with.ensures.value ∙ nat_list_eq_equiv.symm c.args.prefix.now (take (length c.args.prefix.now) c.args.k.now)

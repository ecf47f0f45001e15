use Rattle.std.proofs.Common.{◌≡◌, min, length, arith}
use Rattle.std.proofs.lemmas.Bool.Decides.{nat_tests}
use Rattle.lent_bytes.proofs.Writers.{written_len}
use Rattle.values.specs.Format.{meant}
use Rattle.values.specs.Shown.{display}
use Rattle.values.proofs.check.is_written_too_long.Goals as goal

pub returns : goal.returns
returns c =
    let l : c.push_value.new.out.len ≡ min (length c.new-text.result.memory.now) (length (display (meant c.args.value))) = written_len _ _ _ c.new-text.ensures.len c.push_value.ensures in
    grind (arith, nat_tests)

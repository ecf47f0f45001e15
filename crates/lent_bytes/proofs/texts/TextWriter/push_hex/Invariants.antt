use Rattle.std.proofs.Common.{take}
use Rattle.std.specs.List.{flat_map}
use Rattle.lent_bytes.specs.Writing.{Wrote}
use Rattle.lent_bytes.specs.Digits.{hex_pair}
use Rattle.lent_bytes.proofs.texts.TextWriter.push_hex.Given as goal

abbrev pub invariant-loop-b : goal.invariant-loop-b
invariant-loop-b l = Wrote l.initial.self l.self (flat_map hex_pair (take l.b-index l.bytes))

use Rattle.std.proofs.Common.{rules}
use Rattle.lent_bytes.proofs.Writers.{wrote_more}
use Rattle.lent_bytes.proofs.Signs.{signed_negative, signed_positive}
use Rattle.lent_bytes.proofs.texts.TextWriter.push_signed.Goals as goal

pub returns-then-z-ge0 : goal.returns-then-z-ge0
returns-then-z-ge0 c = search (rules, signed_positive)

pub returns : goal.returns
returns c = let p = wrote_more _ _ _ _ _ c.push.ensures c.push_decimal-2.ensures in search (rules, signed_negative)

use Rattle.std.proofs.Common.{rules}
use Rattle.std.proofs.lemmas.Fmt.{decimal_digit, decimal_step}
use Rattle.lent_bytes.proofs.Writers.{wrote_more}
use Rattle.lent_bytes.proofs.texts.TextWriter.+push_decimal.Goals as goal

pub returns-then-x-lt10 : goal.returns-then-x-lt10
returns-then-x-lt10 t c = search (rules, decimal_digit)

pub returns : goal.returns
returns t c = let p = wrote_more _ _ _ _ _ c.push_decimal.ensures c.push-2.ensures in search (rules, decimal_step)

use Rattle.std.proofs.Common.{rules}
use Rattle.conversion.specs.Steps.{span_row}
use Rattle.conversion.proofs.Turns.{span-own, span-text, span-number}
use Rattle.conversion.proofs.unfinished.UnfinishedSpan.span_row.Goals as goal

pub returns-then-starts : goal.returns-then-starts
returns-then-starts c = search (rules, span-own)

pub returns-in-None : goal.returns-in-None
returns-in-None c = search (rules, span-text)

pub returns-in-Some : goal.returns-in-Some
unfolding span_row
returns-in-Some c = search (rules, span-number)

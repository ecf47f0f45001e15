use Rattle.std.proofs.Common.{rules}
use Rattle.conversion.proofs.AttributeLemmas.{texts}
use Rattle.conversion.proofs.unfinished.UnfinishedSpan.put_text.Goals as goal

pub returns-then-is_empty : goal.returns-then-is_empty
returns-then-is_empty c = search (rules, texts)

pub returns-then-keeps_text : goal.returns-then-keeps_text
returns-then-keeps_text c = search (rules, texts)

pub returns-then-is : goal.returns-then-is
returns-then-is c = search (rules, texts)

pub returns : goal.returns
returns c = search (rules, texts)

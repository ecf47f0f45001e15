use Rattle.std.proofs.Common.{◌≡◌, map, take, ◌∙◌, arith, rules}
use Rattle.std.specs.Char.{to_ascii_lowercase}
use Rattle.readers.proofs.Fronts.{portion-short, made-front}
use Rattle.readers.proofs.texts.Text.lower_front.Goals as goal

pub invariant_of-result : goal.invariant_of-result
invariant_of-result c = record { short = search (rules, portion-short) }

pub returns : goal.returns
returns c =
    let e : c.to_lower_case.new.text ≡ map to_ascii_lowercase (take c.min-at.result c.args.memory.now) = search rules in
    c.part-bytes.ensures ∙ made-front 4096 c.args.n c.min-at.result to_ascii_lowercase c.args.memory.now c.to_lower_case.new.text _ (omega arith) c.min-at.ensures e

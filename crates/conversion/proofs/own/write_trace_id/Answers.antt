use Rattle.std.proofs.Common.{◌≡◌, ◌≤◌, ◌++◌, length, ◌∙◌, arith}
use Rattle.blocks.specs.Facts.{facts}
use Rattle.lent_bytes.proofs.Writers.{wrote_more}
use Rattle.derived.proofs.Filling.{pushed_front}
use Rattle.conversion.specs.Steps.{id_digits}
use Rattle.conversion.proofs.own.write_trace_id.Goals as goal

pub returns : goal.returns
returns c =
    let h = c.trace_id_high.result in
    let l = c.trace_id_low.result in
    let eh : h ≡ (facts c.args.block.now).trace_high = c.trace_id_high.ensures in
    let el : l ≡ (facts c.args.block.now).trace_low = c.trace_id_low.ensures in
    let w = wrote_more _ _ _ _ _ (rw c.id_bytes.ensures at c.push_hex.ensures) (rw c.id_bytes-2.ensures at c.push_hex-2.ensures) in
    let fits : length (id_digits h ++ id_digits l) ≤ 32 = omega arith in
    pushed_front c.new-text.result c.push_hex-2.new.self (id_digits h ++ id_digits l) c.args.out.now 32 _ c.new-text.ensures.len w (omega arith) fits c.new-text.ensures.memory c.len.ensures
    ∙ (λ j. id_digits (eh j) ++ id_digits (el j))

use Rattle.std.proofs.Common.{arith, length-append}
use Rattle.lent_bytes.proofs.Writers.{wrote_more}
use Rattle.derived.proofs.Filling.{pushed_front}
use Rattle.derived.proofs.texts.compose.Goals as goal

pub returns : goal.returns
returns c =
    let p = wrote_more _ _ _ _ _ c.push.ensures (wrote_more _ _ _ _ _ c.push-2.ensures (wrote_more _ _ _ _ _ c.push-3.ensures c.push-4.ensures)) in
    pushed_front _ _ _ _ 8200 _ c.new-text.ensures.len p (omega arith) (simp length-append (omega arith)) c.new-text.ensures.memory c.len.ensures

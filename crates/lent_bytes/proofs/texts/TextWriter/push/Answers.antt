use Rattle.std.proofs.Common.{length, take, drop, refl, ap, ◌∙◌, arith, length-append, length-take}
use Rattle.lent_bytes.proofs.Clips.{pushed, unpushed, length-clip}
use Rattle.lent_bytes.proofs.texts.TextWriter.push.Goals as goal

pub returns : goal.returns
returns c =
    let w = c.args.self.now in
    let i = w.inside in
    record {
      pushed =
          record {
            len = simp (length-clip, length-append, length-take) (omega arith);
            text = ap (take _) c.write.ensures ∙ pushed (length w.memory.now) w.len w.len c.min-k.result w.memory.now c.args.more.now refl (omega arith) c.min-k.ensures;
            behind = ap (drop _) c.write.ensures ∙ unpushed w.len c.min-k.result w.memory.now c.args.more.now c.min-k.ensures;
          };
      named = refl;
    }

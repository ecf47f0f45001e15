use Rattle.std.proofs.Common.{◌∙◌, sym, take}
use Rattle.std.specs.Str.{bytes_eq}
use Rattle.conversion.specs.Spans.{bytes_of}
use Rattle.conversion.specs.Pieces.{meta_pair}
use Rattle.conversion.proofs.TableLemmas.{position-map}
use Rattle.conversion.proofs.unfinished.UnfinishedSpan.find_meta.Goals as goal

pub returns : goal.returns
returns c =
    let s = c.args.self.now in
    c.find_text.ensures ∙ sym (position-map (λ p. bytes_eq (bytes_of p.0) c.args.key.now) (meta_pair s.block.now s.arena.now) (take s.meta_len s.meta.now))

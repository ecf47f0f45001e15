use Rattle.std.proofs.Common.{ap, sym, ◌∙◌}
use Rattle.std.specs.Option.{option_map}
use Rattle.blocks.specs.Facts.{fact_at}
use Rattle.blocks.specs.Layout.{raw_of}
use Rattle.span_args.specs.ReadingOf.{datum_at}
use Rattle.conversion.proofs.EventLemmas.{found-last, option_map-then}
use Rattle.conversion.proofs.unfinished.UnfinishedSpan.exception_text.Goals as goal

pub returns : goal.returns
returns c =
    let b = c.args.self.now.block.now in
    let e = option_map-then (λ r. fact_at b (raw_of r)) datum_at c.last_from-row.result ∙ ap (option_map datum_at) c.last_from-row.ensures ∙ sym (found-last c.args.key.now b c.args.from) in
    rw e at c.put_found.ensures

use Rattle.std.proofs.Common.{◌≡◌, drop}
use Rattle.readers.specs.Texts.{places_of, res_span_size, res_span_text}
use Rattle.readers.proofs.otel_util.find_res_span_text.Given as goal

abbrev pub invariant-loop-key : goal.invariant-loop-key
invariant-loop-key g l =
    (res_span_size (g.S.OtelSpan.reading l.span) (places_of l.attributes)
    ≡ res_span_size (g.S.OtelSpan.reading l.span) (places_of (drop l.key-index l.attributes)))
    × (res_span_text (g.S.OtelSpan.reading l.span) (places_of l.attributes)
    ≡ res_span_text (g.S.OtelSpan.reading l.span) (places_of (drop l.key-index l.attributes)))

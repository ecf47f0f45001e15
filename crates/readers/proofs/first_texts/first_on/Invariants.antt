use Rattle.std.proofs.Common.{◌≡◌, drop}
use Rattle.readers.specs.Reading.{bytes_of}
use Rattle.readers.specs.Texts.{places_of, first_text}
use Rattle.readers.proofs.first_texts.first_on.Given as goal

abbrev pub invariant-loop-key : goal.invariant-loop-key
invariant-loop-key g l =
    first_text (λ k. bytes_of (g.T.Side.text (g.S.OtelSpan.reading l.span) k)) (places_of l.attributes)
    ≡ first_text (λ k. bytes_of (g.T.Side.text (g.S.OtelSpan.reading l.span) k)) (places_of (drop l.key-index l.attributes))

use Rattle.std.proofs.Common.{◌≡◌, map, take}
use Rattle.names.specs.Keys.{keys}
use Rattle.names.specs.Places.{last_place}
use Rattle.span_args.proofs.Rows.{list_keys}
use Rattle.span_args.proofs.span_extract_args.SpanExtractArgs.of_block.Given as goal

abbrev pub invariant-loop-i : goal.invariant-loop-i
invariant-loop-i l =
    (l.span_attrs.places ≡ map (λ k. last_place k (take l.i (list_keys 0 l.block))) keys)
    × (l.res_attrs.places ≡ map (λ k. last_place k (take l.i (list_keys 1 l.block))) keys)

-- What answers on events say, in the words of the span that is shown.
use Rattle.std.proofs.Common.{◌≡◌, ℕ, List, map, length, Some, None, Option, sym, refl, ap, ◌∙◌}
use Rattle.std.specs.Option.{option_map, option_flatten}
use Rattle.std.specs.List.{slice_get}
use Rattle.std.proofs.lemmas.List.{length-map}
use Rattle.std.proofs.lemmas.Option.{slice_get-map}
use Rattle.values.specs.Atoms.{Datum}
use Rattle.blocks.specs.Facts.{RowFact}
use Rattle.blocks.specs.Projections.{Owned, of_list, events_of}
use Rattle.blocks.proofs.Projected.{heads}
use Rattle.span_args.specs.ReadingOf.{datum_at}
use Rattle.conversion.specs.ByKey.{by_key, count_by_key, nth_by_key}
use Rattle.conversion.specs.Spans.{Event, bytes_of}
use Rattle.conversion.specs.Steps.{event_of}
use Rattle.conversion.specs.Questions.{values_under, nth_event_count, nth_event_value}
use Rattle.conversion.proofs.ByKeyLemmas.{length-entries, nth-entry}

pub event-count : (rows : List RowFact) → length (of_list 3 rows) ≡ length (map event_of (events_of rows))
event-count rows =
    sym (ap length (heads 3 4 rows))
    ∙ length-map (events_of rows) (λ (o : Owned). o.head)
    ∙ sym (length-map (events_of rows) event_of)

-- attributes are rows by key
counts-event : (o : Option Owned) → option_map (λ (e : Event). length e.attributes) (option_map event_of o) ≡ option_map (λ (o : Owned). length (by_key o.attributes)) o
counts-event None = refl
counts-event (Some o) = ap Some (length-entries datum_at o.attributes)

pub nth-event_count : (os : List Owned) (n : ℕ) → count_by_key os n ≡ nth_event_count (map event_of os) n
nth-event_count os n = sym (ap (option_map (λ (e : Event). length e.attributes)) (slice_get-map event_of os n) ∙ counts-event (slice_get os n))

value-event : (o : Option Owned) (i : ℕ) → option_flatten (option_map (λ (e : Event). slice_get (values_under e.attributes) i) (option_map event_of o)) ≡ option_map (λ (r : RowFact). (r.key, datum_at r)) (option_flatten (option_map (λ (o : Owned). slice_get (by_key o.attributes) i) o))
value-event None i = refl
value-event (Some o) i = nth-entry datum_at (λ p. (bytes_of p.0, p.1)) o.attributes i

nth-event_value : (os : List Owned) (n i : ℕ) → nth_event_value (map event_of os) n i ≡ option_map (λ (r : RowFact). (r.key, datum_at r)) (nth_by_key os n i)
nth-event_value os n i = ap (λ o. option_flatten (option_map (λ (e : Event). slice_get (values_under e.attributes) i) o)) (slice_get-map event_of os n) ∙ value-event (slice_get os n) i

pub no_value : (os : List Owned) (n i : ℕ) → None ≡ nth_by_key os n i → None ≡ nth_event_value (map event_of os) n i
no_value os n i e = ap (option_map (λ (r : RowFact). (r.key, datum_at r))) e ∙ sym (nth-event_value os n i)

pub value_there : (os : List Owned) (n i : ℕ) (r : RowFact) (k : List ℕ) (d : Option Datum) → Some r ≡ nth_by_key os n i → k ≡ r.key → d ≡ datum_at r → Some (k, d) ≡ nth_event_value (map event_of os) n i
value_there os n i r k d e f g =
    (λ j. Some (f j, g j))
    ∙ ap (option_map (λ (r : RowFact). (r.key, datum_at r))) e
    ∙ sym (nth-event_value os n i)

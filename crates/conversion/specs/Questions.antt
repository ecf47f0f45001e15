-- What answers say.
use Rattle.std.specs.Prelude.{ℕ, List, map, length, ℤ, pos, Some, None, Ok, Err, Option, Result}
use Rattle.std.specs.List.{slice_get}
use Rattle.std.specs.Option.{option_map, option_flatten}
use Rattle.values.specs.Atoms.{Datum}
use Rattle.values.specs.Format.{meant}
use Rattle.blocks.specs.declared.questions.QuestionFault.{QuestionFault}
use Rattle.blocks.specs.declared.row.LinkIds.{LinkIds}
use Rattle.conversion.specs.Spans.{Text, Link, Event, bytes_of, texts_under}
use Rattle.conversion.specs.declared.questions.MetaItem.{MetaItem}
use Rattle.conversion.specs.declared.questions.MetricItem.{MetricItem}
use Rattle.conversion.specs.declared.link_questions.LinkItem.{LinkItem}
use Rattle.conversion.specs.declared.events.EventItem.{EventItem}
use Rattle.conversion.specs.declared.events.EventAttribute.{EventAttribute}

abbrev pub meta_answer : Result MetaItem QuestionFault → Option (List ℕ × List ℕ)
meta_answer (Ok p) = Some (p.key.now, p.value.now)
meta_answer (Err e) = None

abbrev pub metric_answer : Result MetricItem QuestionFault → Option (List ℕ × ℕ)
metric_answer (Ok p) = Some (p.key.now, p.pattern)
metric_answer (Err e) = None

-- the time and the name of an event
abbrev pub event_answer : Result EventItem QuestionFault → Option (ℤ × List ℕ)
event_answer (Ok e) = Some (e.time, e.name.now)
event_answer (Err e) = None

-- an attribute of an event: its key, and its value if it is one
abbrev pub event_attribute_answer : Result EventAttribute QuestionFault → Option (List ℕ × Option Datum)
event_attribute_answer (Ok a) = Some (a.key.now, option_map meant a.value)
event_attribute_answer (Err e) = None

abbrev pub values_under : List (Text × Option Datum) → List (List ℕ × Option Datum)
values_under m = map (λ p. (bytes_of p.0, p.1)) m

-- of the n-th event: its time and name, how many attributes it has, and the i-th of them
abbrev pub nth_event : List Event → ℕ → Option (ℤ × List ℕ)
nth_event events n = option_map (λ (e : Event). (pos e.time, bytes_of e.name)) (slice_get events n)

abbrev pub nth_event_count : List Event → ℕ → Option ℕ
nth_event_count events n = option_map (λ (e : Event). length e.attributes) (slice_get events n)

abbrev pub nth_event_value : List Event → ℕ → ℕ → Option (List ℕ × Option Datum)
nth_event_value events n i = option_flatten (option_map (λ (e : Event). slice_get (values_under e.attributes) i) (slice_get events n))

-- the ids and the trace state of a link
abbrev pub link_answer : Result LinkItem QuestionFault → Option (LinkIds × List ℕ)
link_answer (Ok l) = Some (l.ids, l.trace_state.now)
link_answer (Err e) = None

abbrev pub ids_of : Link → LinkIds
ids_of l = record { trace_id_high = l.trace_high; trace_id_low = l.trace_low; span_id = l.span_id; flags = l.flags }

-- of the n-th link: its ids and trace state, how many attributes it has, and the i-th of them
abbrev pub nth_link : List Link → ℕ → Option (LinkIds × List ℕ)
nth_link links n = option_map (λ (l : Link). (ids_of l, bytes_of l.trace_state)) (slice_get links n)

abbrev pub nth_link_count : List Link → ℕ → Option ℕ
nth_link_count links n = option_map (λ (l : Link). length l.attributes) (slice_get links n)

abbrev pub nth_link_text : List Link → ℕ → ℕ → Option (List ℕ × List ℕ)
nth_link_text links n i = option_flatten (option_map (λ (l : Link). slice_get (texts_under l.attributes) i) (slice_get links n))

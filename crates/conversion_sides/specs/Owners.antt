-- The links and events of two spans beside each other, place by place.
use Rattle.std.specs.Prelude.{ℕ, Bool, ◌&&◌, List, filter, length, ℤ, Option, ◌==◌, unwrap_or}
use Rattle.std.specs.List.{list_all, range_with_len}
use Rattle.std.specs.Ordering.{int_eq}
use Rattle.std.specs.Str.{bytes_eq}
use Rattle.values.specs.Atoms.{Datum}
use Rattle.blocks.specs.declared.lists.Owner.{Owner}
use Rattle.blocks.specs.declared.lists.Owner.TheVariants.{Event, Link}
use Rattle.blocks.specs.declared.row.LinkIds.{LinkIds}
use Rattle.conversion.specs.Spans.{Span}
use Rattle.conversion.specs.Questions.{nth_link, nth_link_count, nth_link_text, nth_event, nth_event_count, nth_event_value}
use Rattle.conversion_sides.specs.declared.standing.Standing.{Standing}
use Rattle.conversion_sides.specs.declared.standing.Standing.TheVariants.{Same, Differs, OnlyLeft}
use Rattle.conversion_sides.specs.declared.entries.Apart.{Apart}
use Rattle.conversion_sides.specs.Standings.{stands, is_standing, standing_and}
use Rattle.conversion_sides.specs.Values.{same_value}

abbrev pub same_ids : LinkIds → LinkIds → Bool
same_ids a b = a.trace_id_high == b.trace_id_high && (a.trace_id_low == b.trace_id_low && (a.span_id == b.span_id && a.flags == b.flags))

-- the ids and the trace state of links, the times and the names of events
abbrev pub same_link_head : LinkIds × List ℕ → LinkIds × List ℕ → Bool
same_link_head l m = same_ids l.0 m.0 && bytes_eq l.1 m.1

abbrev pub same_event_head : ℤ × List ℕ → ℤ × List ℕ → Bool
same_event_head e f = int_eq e.0 f.0 && bytes_eq e.1 f.1

-- their attributes
abbrev pub same_text : List ℕ × List ℕ → List ℕ × List ℕ → Bool
same_text p q = bytes_eq p.0 q.0 && bytes_eq p.1 q.1

abbrev pub same_attribute : List ℕ × Option Datum → List ℕ × Option Datum → Bool
same_attribute p q = bytes_eq p.0 q.0 && same_value p.1 q.1

abbrev pub owners_in : Owner → Span → ℕ
owners_in Event s = length s.events
owners_in Link s = length s.links

abbrev pub attributes_in : Owner → Span → ℕ → ℕ
attributes_in Event s n = unwrap_or (nth_event_count s.events n) 0
attributes_in Link s n = unwrap_or (nth_link_count s.links n) 0

abbrev pub head_standing : Owner → Span → Span → ℕ → Standing
head_standing Event s t n = stands same_event_head (nth_event s.events n) (nth_event t.events n)
head_standing Link s t n = stands same_link_head (nth_link s.links n) (nth_link t.links n)

abbrev pub attribute_standing : Owner → Span → Span → ℕ → ℕ → Standing
attribute_standing Event s t n i = stands same_attribute (nth_event_value s.events n i) (nth_event_value t.events n i)
attribute_standing Link s t n i = stands same_text (nth_link_text s.links n i) (nth_link_text t.links n i)

-- as many attributes, and the same one after the other
abbrev pub attributes_same : Owner → Span → Span → ℕ → Bool
attributes_same o s t n =
    attributes_in o s n == attributes_in o t n && list_all (λ i. is_standing (attribute_standing o s t n i) Same) (range_with_len 0 (attributes_in o s n))

abbrev pub owner_standing : Owner → Span → Span → ℕ → Standing
owner_standing o s t n = standing_and (head_standing o s t n) (attributes_same o s t n)

-- how many events or links of s stand so beside t
abbrev pub owners_so : Owner → Span → Span → Standing → ℕ
owners_so o s t st = length (filter (λ n. is_standing (owner_standing o s t n) st) (range_with_len 0 (owners_in o s)))

abbrev pub owners_apart : Owner → Span → Span → Apart
owners_apart o s t = record { differ = owners_so o s t Differs; only_left = owners_so o s t OnlyLeft; only_right = owners_so o t s OnlyLeft }

-- The counts are 0 exactly where the two spans agree.
use Rattle.std.proofs.Common.{◌≡◌, ℕ, ◌<◌, Bool, false, ◌&&◌, List, length, ℤ, pos, Option, bytes_eq, slice_get, IsPermutation, Decides, sym, refl, ap, ◌∙◌, subst, ◌==◌, eqb}
use Rattle.std.specs.Ordering.{int_eq}
use Rattle.std.specs.List.{IsDistinct}
use Rattle.std.specs.Map.{keys_of, lookup}
use Rattle.std.specs.Cmp.{unsigned_Decides, signed_Decides}
use Rattle.std.proofs.lemmas.Bool.{eqb-true, eq-eqb}
use Rattle.std.proofs.lemmas.Bool.Decides.{Decides-and, Decides-like}
use Rattle.std.proofs.lemmas.Iterator.Adapters.{option_map_id}
use Rattle.std.proofs.lemmas.List.{length-map}
use Rattle.std.proofs.lemmas.Slice.Eq.{bytes_eq-Decides}
use Rattle.values.specs.Atoms.{Datum}
use Rattle.blocks.specs.declared.row.LinkIds.{LinkIds}
use Rattle.blocks.specs.declared.lists.Owner.TheVariants.{Event as OfEvent, Link as OfLink}
use Rattle.conversion.specs.Spans.{Link, Event, Span, bytes_of, texts_under, numbers_under}
use Rattle.conversion.specs.Questions.{ids_of, values_under}
use Rattle.conversion_law.specs.Agreement.{LinkSeen, EventSeen, link_seen, event_seen, links_seen, events_seen, compared as outside_names, SameTexts, Agree}
use Rattle.conversion_law.specs.IsUnique.{UniqueIn}
use Rattle.conversion_law.proofs.Permuted.{keys-under, lookup-under}
use Rattle.conversion_sides.specs.declared.standing.Standing.TheVariants.{Differs, OnlyLeft}
use Rattle.conversion_sides.specs.declared.entries.Part.TheVariants.{Meta, Metrics}
use Rattle.conversion_sides.specs.Standings.{is_standing}
use Rattle.conversion_sides.specs.Fields.{field_standing, all_fields, fields_apart}
use Rattle.conversion_sides.specs.Entries.{entries_apart, stands_so, text_under, number_under}
use Rattle.conversion_sides.specs.Owners.{same_ids, same_link_head, same_event_head, same_text, same_attribute, owner_standing, owners_apart}
use Rattle.conversion_sides.specs.Values.{same_value}
use Rattle.conversion_sides.specs.Compared.{none_apart, agrees, compared}
use Rattle.conversion_sides.proofs.Counts.{none_apart-Decides, none-below, none-counted, none-in, none-of}
use Rattle.conversion_sides.proofs.ByKey.{alike-from, none-from, permuted-from, alike-permuted}
use Rattle.conversion_sides.proofs.Values.{same_value-Decides}
use Rattle.conversion_sides.proofs.Places.{sameness-true, sameness-not, same_owner, owner-Decides, owner-stands, places-Decides}

-- fields
record FieldsSame (s t : Span) : Type 0 where
  texts : SameTexts s t
  trace_id : s.trace_id ≡ t.trace_id
  span_id : s.span_id ≡ t.span_id
  parent_id : s.parent_id ≡ t.parent_id
  start : s.start ≡ t.start
  duration : s.duration ≡ t.duration
  error : s.error ≡ t.error

fields-Decides : (s t : Span) → Decides (fields_apart s t == 0) (FieldsSame s t)
unfolding fields_apart
fields-Decides s t = (
  (λ e.
      let h = none-in (λ f. is_standing (field_standing f s t) Differs) all_fields (eqb-true (fields_apart s t) 0 e) in
      record {
        texts =
            record {
              service = (bytes_eq-Decides _ _).0 (sameness-true _ h.0);
              name = (bytes_eq-Decides _ _).0 (sameness-true _ h.1.0);
              resource = (bytes_eq-Decides _ _).0 (sameness-true _ h.1.1.0);
              type = (bytes_eq-Decides _ _).0 (sameness-true _ h.1.1.1.0);
            };
        trace_id = (unsigned_Decides _ _).0 (sameness-true _ h.1.1.1.1.0);
        span_id = (unsigned_Decides _ _).0 (sameness-true _ h.1.1.1.1.1.0);
        parent_id = (unsigned_Decides _ _).0 (sameness-true _ h.1.1.1.1.1.1.0);
        start = (signed_Decides _ _).0 (sameness-true _ h.1.1.1.1.1.1.1.0);
        duration = (signed_Decides _ _).0 (sameness-true _ h.1.1.1.1.1.1.1.1.0);
        error = (signed_Decides _ _).0 (sameness-true _ h.1.1.1.1.1.1.1.1.1.0);
      }),
  (λ h.
      eq-eqb (fields_apart s t) 0
      (none-of (λ f. is_standing (field_standing f s t) Differs) all_fields (
        sameness-not _ ((bytes_eq-Decides _ _).1 h.texts.service),
        (
          sameness-not _ ((bytes_eq-Decides _ _).1 h.texts.name),
          (
            sameness-not _ ((bytes_eq-Decides _ _).1 h.texts.resource),
            (
              sameness-not _ ((bytes_eq-Decides _ _).1 h.texts.type),
              (
                sameness-not _ ((unsigned_Decides _ _).1 h.trace_id),
                (
                  sameness-not _ ((unsigned_Decides _ _).1 h.span_id),
                  (
                    sameness-not _ ((unsigned_Decides _ _).1 h.parent_id),
                    (
                      sameness-not _ ((signed_Decides _ _).1 h.start),
                      (
                        sameness-not _ ((signed_Decides _ _).1 h.duration),
                        (sameness-not _ ((signed_Decides _ _).1 h.error), tt),
                      ),
                    ),
                  ),
                ),
              ),
            ),
          ),
        ),
      ))),
)

-- entries
meta-Decides : (s t : Span) → UniqueIn s → UniqueIn t → Decides (none_apart (entries_apart Meta s t false)) (IsPermutation (outside_names (texts_under s.meta)) (outside_names (texts_under t.meta)))
meta-Decides s t u v =
    let es = texts_under s.meta in
    let fs = texts_under t.meta in
    let c : IsDistinct bytes_eq (keys_of es) = subst (IsDistinct bytes_eq) (sym (keys-under (λ k. false) bytes_of s.meta)) u.meta in
    let d : IsDistinct bytes_eq (keys_of fs) = subst (IsDistinct bytes_eq) (sym (keys-under (λ k. false) bytes_of t.meta)) v.meta in
    let le : (q : List ℕ) → lookup (bytes_eq q) es ≡ text_under s q = λ q. lookup-under (λ k. false) bytes_of q s.meta in
    let lf : (q : List ℕ) → lookup (bytes_eq q) fs ≡ text_under t q = λ q. lookup-under (λ k. false) bytes_of q t.meta in
    let n : length s.meta ≡ length es = sym (length-map s.meta _) in
    let m : length t.meta ≡ length fs = sym (length-map t.meta _) in
    Decides-like (none_apart (entries_apart Meta s t false))
    (λ h.
    permuted-from bytes_eq bytes_eq-Decides es fs (text_under s) (text_under t) le lf c d
    (alike-from bytes_eq bytes_eq-Decides es fs (text_under s) (text_under t) le lf
    (λ i lt. none-below (stands_so Meta s t Differs false) (length s.meta) h.differ i (subst (λ k. i < k) (sym n) lt))
    (λ i lt. none-below (stands_so Meta s t OnlyLeft false) (length s.meta) h.only_left i (subst (λ k. i < k) (sym n) lt))
    (λ i lt. none-below (stands_so Meta t s OnlyLeft false) (length t.meta) h.only_right i (subst (λ k. i < k) (sym m) lt))))
    (λ h.
    let alike = alike-permuted bytes_eq bytes_eq-Decides es fs (text_under s) (text_under t) le lf c d h in
    record {
      differ = none-counted (stands_so Meta s t Differs false) 0 (length s.meta) (none-from bytes_eq bytes_eq-Decides es fs (text_under s) (text_under t) le lf c alike Differs refl);
      only_left = none-counted (stands_so Meta s t OnlyLeft false) 0 (length s.meta) (none-from bytes_eq bytes_eq-Decides es fs (text_under s) (text_under t) le lf c alike OnlyLeft refl);
      only_right = none-counted (stands_so Meta t s OnlyLeft false) 0 (length t.meta) (none-from bytes_eq bytes_eq-Decides fs es (text_under t) (text_under s) lf le d (λ q n. sym (alike q n)) OnlyLeft refl);
    })
    (none_apart-Decides (entries_apart Meta s t false))

metrics-Decides : (s t : Span) → UniqueIn s → UniqueIn t → Decides (none_apart (entries_apart Metrics s t false)) (IsPermutation (outside_names (numbers_under s.metrics)) (outside_names (numbers_under t.metrics)))
metrics-Decides s t u v =
    let es = numbers_under s.metrics in
    let fs = numbers_under t.metrics in
    let c : IsDistinct bytes_eq (keys_of es) = subst (IsDistinct bytes_eq) (sym (keys-under (λ k. false) (λ z. z) s.metrics)) u.metrics in
    let d : IsDistinct bytes_eq (keys_of fs) = subst (IsDistinct bytes_eq) (sym (keys-under (λ k. false) (λ z. z) t.metrics)) v.metrics in
    let le : (q : List ℕ) → lookup (bytes_eq q) es ≡ number_under s q = λ q. lookup-under (λ k. false) (λ z. z) q s.metrics ∙ option_map_id _ in
    let lf : (q : List ℕ) → lookup (bytes_eq q) fs ≡ number_under t q = λ q. lookup-under (λ k. false) (λ z. z) q t.metrics ∙ option_map_id _ in
    let n : length s.metrics ≡ length es = sym (length-map s.metrics _) in
    let m : length t.metrics ≡ length fs = sym (length-map t.metrics _) in
    Decides-like (none_apart (entries_apart Metrics s t false))
    (λ h.
    permuted-from eqb unsigned_Decides es fs (number_under s) (number_under t) le lf c d
    (alike-from eqb unsigned_Decides es fs (number_under s) (number_under t) le lf
    (λ i lt. none-below (stands_so Metrics s t Differs false) (length s.metrics) h.differ i (subst (λ k. i < k) (sym n) lt))
    (λ i lt. none-below (stands_so Metrics s t OnlyLeft false) (length s.metrics) h.only_left i (subst (λ k. i < k) (sym n) lt))
    (λ i lt. none-below (stands_so Metrics t s OnlyLeft false) (length t.metrics) h.only_right i (subst (λ k. i < k) (sym m) lt))))
    (λ h.
    let alike = alike-permuted eqb unsigned_Decides es fs (number_under s) (number_under t) le lf c d h in
    record {
      differ = none-counted (stands_so Metrics s t Differs false) 0 (length s.metrics) (none-from eqb unsigned_Decides es fs (number_under s) (number_under t) le lf c alike Differs refl);
      only_left = none-counted (stands_so Metrics s t OnlyLeft false) 0 (length s.metrics) (none-from eqb unsigned_Decides es fs (number_under s) (number_under t) le lf c alike OnlyLeft refl);
      only_right = none-counted (stands_so Metrics t s OnlyLeft false) 0 (length t.metrics) (none-from eqb unsigned_Decides fs es (number_under t) (number_under s) lf le d (λ q n. sym (alike q n)) OnlyLeft refl);
    })
    (none_apart-Decides (entries_apart Metrics s t false))

-- links and events
ids-Decides : (a b : LinkIds) → Decides (same_ids a b) (a ≡ b)
ids-Decides a b =
    Decides-like (same_ids a b)
    (λ h. λ i. record { trace_id_high = h.0 i; trace_id_low = h.1.0 i; span_id = h.1.1.0 i; flags = h.1.1.1 i })
    (λ h. (ap (λ (z : LinkIds). z.trace_id_high) h, (ap (λ (z : LinkIds). z.trace_id_low) h, (ap (λ (z : LinkIds). z.span_id) h, ap (λ (z : LinkIds). z.flags) h))))
    (Decides-and _ _ (unsigned_Decides _ _) (Decides-and _ _ (unsigned_Decides _ _) (Decides-and _ _ (unsigned_Decides _ _) (unsigned_Decides _ _))))

pair-Decides : {A B : Type 0} (x : Bool) (y : Bool) (p q : A × B) → Decides x (p.0 ≡ q.0) → Decides y (p.1 ≡ q.1) → Decides (x && y) (p ≡ q)
pair-Decides x y p q d e = Decides-like (x && y) (λ h. λ i. (h.0 i, h.1 i)) (λ h. (ap (λ z. z.0) h, ap (λ z. z.1) h)) (Decides-and x y d e)

link_head-Decides : (x y : LinkIds × List ℕ) → Decides (same_link_head x y) (x ≡ y)
link_head-Decides x y = pair-Decides (same_ids x.0 y.0) (bytes_eq x.1 y.1) x y (ids-Decides x.0 y.0) (bytes_eq-Decides x.1 y.1)

event_head-Decides : (x y : ℤ × List ℕ) → Decides (same_event_head x y) (x ≡ y)
event_head-Decides x y = pair-Decides (int_eq x.0 y.0) (bytes_eq x.1 y.1) x y (signed_Decides x.0 y.0) (bytes_eq-Decides x.1 y.1)

text-Decides : (p q : List ℕ × List ℕ) → Decides (same_text p q) (p ≡ q)
text-Decides p q = pair-Decides (bytes_eq p.0 q.0) (bytes_eq p.1 q.1) p q (bytes_eq-Decides p.0 q.0) (bytes_eq-Decides p.1 q.1)

attribute-Decides : (p q : List ℕ × Option Datum) → Decides (same_attribute p q) (p ≡ q)
attribute-Decides p q = pair-Decides (bytes_eq p.0 q.0) (same_value p.1 q.1) p q (bytes_eq-Decides p.0 q.0) (same_value-Decides p.1 q.1)

abbrev link_head : Link → LinkIds × List ℕ
link_head l = (ids_of l, bytes_of l.trace_state)

abbrev event_head : Event → ℤ × List ℕ
event_head e = (pos e.time, bytes_of e.name)

abbrev texts_of : Link → List (List ℕ × List ℕ)
texts_of l = texts_under l.attributes

abbrev values_of : Event → List (List ℕ × Option Datum)
values_of e = values_under e.attributes

abbrev link_count : Link → ℕ
link_count l = length l.attributes

abbrev event_count : Event → ℕ
event_count e = length e.attributes

abbrev same_link : Link → Link → Bool
same_link = same_owner link_head link_count texts_of same_link_head same_text

abbrev same_event : Event → Event → Bool
same_event = same_owner event_head event_count values_of same_event_head same_attribute

link-Decides : (x y : Link) → Decides (same_link x y) (link_seen x ≡ link_seen y)
link-Decides x y =
    Decides-like (same_link x y)
    (λ h. λ i. record { ids = (h.0 i).0; trace_state = (h.0 i).1; attributes = h.1 i })
    (λ h. (ap (λ (z : LinkSeen). (z.ids, z.trace_state)) h, ap (λ (z : LinkSeen). z.attributes) h))
    (owner-Decides link_head link_count texts_of same_link_head same_text (λ l. sym (length-map l.attributes _)) link_head-Decides text-Decides x y)

event-Decides : (x y : Event) → Decides (same_event x y) (event_seen x ≡ event_seen y)
event-Decides x y =
    Decides-like (same_event x y)
    (λ h. λ i. record { time = (h.0 i).0; name = (h.0 i).1; attributes = h.1 i })
    (λ h. (ap (λ (z : EventSeen). (z.time, z.name)) h, ap (λ (z : EventSeen). z.attributes) h))
    (owner-Decides event_head event_count values_of same_event_head same_attribute (λ e. sym (length-map e.attributes _)) event_head-Decides attribute-Decides x y)

links-Decides : (s t : Span) → Decides (none_apart (owners_apart OfLink s t)) (links_seen s ≡ links_seen t)
links-Decides s t =
    let stands = owner-stands link_head link_count texts_of same_link_head same_text in
    places-Decides same_link link_seen link-Decides s.links t.links (owner_standing OfLink s t) (owner_standing OfLink t s)
    (λ n. stands (slice_get s.links n) (slice_get t.links n))
    (λ n. stands (slice_get t.links n) (slice_get s.links n))

events-Decides : (s t : Span) → Decides (none_apart (owners_apart OfEvent s t)) (events_seen s ≡ events_seen t)
events-Decides s t =
    let stands = owner-stands event_head event_count values_of same_event_head same_attribute in
    places-Decides same_event event_seen event-Decides s.events t.events (owner_standing OfEvent s t) (owner_standing OfEvent t s)
    (λ n. stands (slice_get s.events n) (slice_get t.events n))
    (λ n. stands (slice_get t.events n) (slice_get s.events n))

pub agrees-Decides : (s t : Span) → UniqueIn s → UniqueIn t → Decides (agrees (compared s t)) (Agree s t)
agrees-Decides s t u v =
    Decides-like (agrees (compared s t))
    (λ h.
    let f = h.0 in
    record {
      fields = record { texts = f.texts; trace_id = f.trace_id; span_id = f.span_id; parent_id = f.parent_id; start = f.start; duration = f.duration; error = f.error; links = h.1.1.1.0; events = h.1.1.1.1 };
      meta = h.1.0;
      metrics = h.1.1.0;
    })
    (λ h.
    let f = h.fields in
    (record { texts = f.texts; trace_id = f.trace_id; span_id = f.span_id; parent_id = f.parent_id; start = f.start; duration = f.duration; error = f.error }, (h.meta, (h.metrics, (f.links, f.events)))))
    (Decides-and _ _ (fields-Decides s t) (Decides-and _ _ (meta-Decides s t u v) (Decides-and _ _ (metrics-Decides s t u v) (Decides-and _ _ (links-Decides s t) (events-Decides s t)))))

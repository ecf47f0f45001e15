-- The four texts, set one by one: what their steps make of the four, and that they leave all but the four and the arena.
use Rattle.std.proofs.Common.{◌≡◌, ℕ, Bool, true, false, cond, List, [], refl, ap, ◌∙◌}
use Rattle.readers.specs.Reading.{Reading}
use Rattle.readers.specs.Texts.{span_text}
use Rattle.readers.specs.Places.{datadog_service, datadog_name, datadog_resource, datadog_type}
use Rattle.derived.specs.Fields.{service_name, span_type}
use Rattle.derived.specs.OperationName.{operation_name}
use Rattle.derived.specs.ResourceName.{resource_name}
use Rattle.conversion.specs.declared.singles.Single.{Single}
use Rattle.conversion.specs.declared.singles.Single.TheVariants.{Service, Name, Resource, SpanType}
use Rattle.conversion.specs.Singles.{single_of, with_single}
use Rattle.conversion.specs.Spans.{Text, quoted, placed, bytes_of, Span}
use Rattle.conversion.specs.Steps.{is_empty, own_texts, or_single, derived_texts}
use Rattle.conversion_law.specs.SameDerived.{SameDerived}

abbrev pub Four : Type 0
Four = Text × Text × Text × Text

abbrev pub four : Span → Four
four s = (s.service, s.name, s.resource, s.type)

-- with no texts and no arena
abbrev pub without_four : Span → Span
without_four s = record s { service = quoted []; name = quoted []; resource = quoted []; type = quoted []; arena = [] }

abbrev pub or_derived : Text → List ℕ → Text
or_derived t d = cond (is_empty (bytes_of t)) (placed d) t

-- one of the four where it is set, by whether it was empty
abbrev put_four : Single → Text → Four → Four
put_four Service t x = (t, x.1, x.2, x.3)
put_four Name t x = (x.0, t, x.2, x.3)
put_four Resource t x = (x.0, x.1, t, x.3)
put_four SpanType t x = (x.0, x.1, x.2, t)

module _ (t : List ℕ) (s : Span) where
  rest-by : (w : Single) (b : Bool) → without_four (cond b (with_single w t s) s) ≡ without_four s
  unfolding with_single
  rest-by Service true = refl
  rest-by Name true = refl
  rest-by Resource true = refl
  rest-by SpanType true = refl
  rest-by w false = refl

  four-by : (w : Single) (b : Bool) → four (cond b (with_single w t s) s) ≡ put_four w (cond b (placed t) (single_of w s)) (four s)
  unfolding with_single
  four-by Service true = refl
  four-by Name true = refl
  four-by Resource true = refl
  four-by SpanType true = refl
  four-by Service false = refl
  four-by Name false = refl
  four-by Resource false = refl
  four-by SpanType false = refl

  rest-or_single : (w : Single) → without_four (or_single w t s) ≡ without_four s
  unfolding or_single
  rest-or_single w = rest-by w (is_empty (bytes_of (single_of w s)))

  four-or_single : (w : Single) → four (or_single w t s) ≡ put_four w (or_derived (single_of w s) t) (four s)
  unfolding or_single
  four-or_single w = four-by w (is_empty (bytes_of (single_of w s)))

abbrev pub own_four : Reading → Four
own_four r = (placed (span_text r datadog_service), placed (span_text r datadog_name), placed (span_text r datadog_resource), placed (span_text r datadog_type))

abbrev pub derived_four : Reading → Four → Four
derived_four r x = (or_derived x.0 (service_name r), or_derived x.1 (operation_name r), or_derived x.2 (resource_name r), or_derived x.3 (span_type r))

-- of readings of which all that the steps take is equal
module _ (a b : Reading) (d : SameDerived a b) where
  pub same-own_four : own_four a ≡ own_four b
  same-own_four = λ i. (placed (d.own_service i), placed (d.own_name i), placed (d.own_resource i), placed (d.own_type i))

  pub same-derived_four : (x y : Four) → x ≡ y → derived_four a x ≡ derived_four b y
  same-derived_four x y e = λ i. (or_derived (e i).0 (d.service i), or_derived (e i).1 (d.name i), or_derived (e i).2 (d.resource i), or_derived (e i).3 (d.type i))

module _ (r : Reading) (s : Span) where
  pub rest-own_texts : without_four (own_texts r s) ≡ without_four s
  unfolding own_texts with_single
  rest-own_texts = refl

  pub four-own_texts : four (own_texts r s) ≡ own_four r
  unfolding own_texts with_single
  four-own_texts = refl

  pub rest-derived_texts : without_four (derived_texts r s) ≡ without_four s
  unfolding derived_texts
  rest-derived_texts = rest-or_single (span_type r) _ SpanType ∙ rest-or_single (resource_name r) _ Resource ∙ rest-or_single (operation_name r) _ Name ∙ rest-or_single (service_name r) s Service

  pub four-derived_texts : four (derived_texts r s) ≡ derived_four r (four s)
  unfolding derived_texts
  four-derived_texts =
      let a = or_single Service (service_name r) s in
      let b = or_single Name (operation_name r) a in
      let c = or_single Resource (resource_name r) b in
      four-or_single (span_type r) c SpanType
      ∙ ap (λ (x : Four). put_four SpanType (or_derived x.3 (span_type r)) x)
      (four-or_single (resource_name r) b Resource
      ∙ ap (λ (x : Four). put_four Resource (or_derived x.2 (resource_name r)) x)
      (four-or_single (operation_name r) a Name ∙ ap (λ (x : Four). put_four Name (or_derived x.1 (operation_name r)) x) (four-or_single (service_name r) s Service)))

-- The later edition changes of a reading only what is derived as name, type and resource, and no step behind `derived_texts` reads
-- those.
use Rattle.std.proofs.Common.{◌≡◌, ℕ, [], ◌∷◌, sym, refl, ap, ◌∙◌, subst}
use Rattle.blocks.specs.Facts.{Facts}
use Rattle.readers.specs.Reading.{Reading}
use Rattle.readers.specs.Texts.{span_text}
use Rattle.readers.specs.Places.{datadog_resource}
use Rattle.layer.specs.Later.{later_edition}
use Rattle.layer.proofs.Piles.{as-one}
use Rattle.conversion.specs.Singles.{with_single}
use Rattle.conversion.specs.Spans.{placed, Span}
use Rattle.conversion.specs.Steps.{put_meta, begun, own_texts, first_error, span_kind, status_code, env, of_span, steps}
use Rattle.conversion_law.specs.LaterDiffers.{SameButThree, LaterDiffers, PilesDiffer, SameResource}
use Rattle.conversion_law.proofs.SameResource.{same-resource_name}
use Rattle.conversion_law.proofs.Singles.{or_derived, four, without_four, rest-derived_texts}
use Rattle.conversion_law.proofs.Behind.{with_no_arena, with_four, all-but, behind, passes-behind}
use Rattle.conversion_law.proofs.Texts.{taken, derived, steps-behind, steps-taken}

module _ (n : ℕ) (f : Facts) (r : Reading) where
  abbrev later : Reading
  later = later_edition r

  behind-same : (s : Span) → behind n f later s ≡ behind n f r s
  unfolding of_span status_code env
  behind-same s = refl

  abbrev kind_of : Reading → Span
  kind_of q = span_kind n f (first_error f (own_texts q (begun f)))

  kinds-same : without_four (kind_of later) ≡ without_four (kind_of r)
  unfolding span_kind put_meta first_error own_texts with_single
  kinds-same = refl

  derived-same : without_four (derived n f r) ≡ without_four (derived n f later)
  derived-same = rest-derived_texts r (kind_of r) ∙ sym kinds-same ∙ sym (rest-derived_texts later (kind_of later))

  steps-same : with_no_arena (steps n f later) ≡ with_four (four (derived n f later)) (steps n f r)
  steps-same =
      let d = derived n f later in
      ap with_no_arena (steps-behind n f later ∙ behind-same d)
      ∙ (passes-behind (four d) n f r (derived n f r) d (all-but (derived n f r) d derived-same)).is
      ∙ ap (with_four (four d)) (sym (steps-behind n f r))

  service-same : (steps n f later).service ≡ (steps n f r).service
  service-same =
      let p : (steps n f later).service ≡ (taken later).0 = ap (λ z. z.0) (steps-taken n f later) in
      let q : (steps n f r).service ≡ (taken r).0 = ap (λ z. z.0) (steps-taken n f r) in
      p ∙ sym q

  resource-same : (steps n f later).resource ≡ (steps n f r).resource
  resource-same =
      let p : (steps n f later).resource ≡ (taken later).2 = ap (λ z. z.2) (steps-taken n f later) in
      let q : (steps n f r).resource ≡ (taken r).2 = ap (λ z. z.2) (steps-taken n f r) in
      p ∙ ap (or_derived (placed (span_text r datadog_resource))) (same-resource_name r) ∙ sym q

pub later_differs_lem : LaterDiffers
later_differs_lem n f r =
    let e = steps-same n f r in
    record {
      service = service-same n f r;
      trace_id = ap (λ (z : Span). z.trace_id) e;
      span_id = ap (λ (z : Span). z.span_id) e;
      parent_id = ap (λ (z : Span). z.parent_id) e;
      start = ap (λ (z : Span). z.start) e;
      duration = ap (λ (z : Span). z.duration) e;
      error = ap (λ (z : Span). z.error) e;
      meta = ap (λ (z : Span). z.meta) e;
      metrics = ap (λ (z : Span). z.metrics) e;
      links = ap (λ (z : Span). z.links) e;
      events = ap (λ (z : Span). z.events) e;
    }

pub piles_differ_lem : PilesDiffer
piles_differ_lem [] n f r =
    record { service = refl; trace_id = refl; span_id = refl; parent_id = refl; start = refl; duration = refl; error = refl; meta = refl; metrics = refl; links = refl; events = refl }
piles_differ_lem (l ∷ ls) n f r = subst (λ q. SameButThree (steps n f q) (steps n f r)) (sym (as-one r l ls)) (later_differs_lem n f r)

pub same_resource_lem : SameResource
same_resource_lem [] n f r = refl
same_resource_lem (l ∷ ls) n f r = ap (λ q. (steps n f q).resource) (as-one r l ls) ∙ resource-same n f r

-- The four texts of a span go by its reading alone.
use Rattle.std.proofs.Common.{◌≡◌, ℕ, sym, refl, ap, ◌∙◌}
use Rattle.blocks.specs.Facts.{Facts}
use Rattle.readers.specs.Reading.{Reading}
use Rattle.conversion.specs.Spans.{bytes_of, Span}
use Rattle.conversion.specs.Steps.{put_meta, begun, own_texts, first_error, span_kind, derived_texts, minimal_from, steps_from, steps}
use Rattle.conversion_law.specs.Agreement.{SameTexts}
use Rattle.conversion_law.specs.SameDerived.{SameDerived}
use Rattle.conversion_law.proofs.Singles.{Four, four, own_four, derived_four, four-own_texts, four-derived_texts, same-own_four, same-derived_four}
use Rattle.conversion_law.proofs.Behind.{all-but, behind, passes-behind}

abbrev pub taken : Reading → Four
taken r = derived_four r (own_four r)

-- the span as `derived_texts` leaves it
abbrev pub derived : ℕ → Facts → Reading → Span
derived n f r = derived_texts r (span_kind n f (first_error f (own_texts r (begun f))))

module _ (n : ℕ) (f : Facts) (r : Reading) where
  pub steps-behind : steps n f r ≡ behind n f r (derived n f r)
  unfolding steps_from minimal_from
  steps-behind = refl

  own-taken : four (span_kind n f (first_error f (own_texts r (begun f)))) ≡ own_four r
  unfolding span_kind put_meta first_error
  own-taken = four-own_texts r (begun f)

  pub steps-taken : four (steps n f r) ≡ taken r
  steps-taken =
      let d = derived n f r in
      ap four steps-behind ∙ ap four (passes-behind (four d) n f r d d (all-but d d refl)).is ∙ four-derived_texts r _ ∙ ap (derived_four r) own-taken

pub texts-by_reading : (a b : Reading) → SameDerived a b → (n k : ℕ) (f g : Facts) → SameTexts (steps n f a) (steps k g b)
texts-by_reading a b d n k f g =
    let e : four (steps n f a) ≡ four (steps k g b) = steps-taken n f a ∙ same-derived_four a b d (own_four a) (own_four b) (same-own_four a b d) ∙ sym (steps-taken k g b) in
    record { service = ap (λ z. bytes_of z.0) e; name = ap (λ z. bytes_of z.1) e; resource = ap (λ z. bytes_of z.2) e; type = ap (λ z. bytes_of z.3) e }

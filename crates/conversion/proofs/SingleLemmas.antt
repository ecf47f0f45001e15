-- The four texts outside the tables.
use Rattle.std.proofs.Common.{◌≡◌, ℕ, ◌≤◌, true, false, List, [], None, Some, is_some, true≢false, refl, arith}
use Rattle.std.proofs.lemmas.List.{length-append}
use Rattle.std.proofs.lemmas.Bool.{cond_both, cond-true, cond-false}
use Rattle.lent_bytes.specs.Memory.{portion, clip, Placed}
use Rattle.lent_bytes.proofs.Clips.{take-padded}
use Rattle.readers.specs.Reading.{Reading, text_of, bytes_of as bytes_of_known}
use Rattle.readers.specs.Texts.{Filled, span_text}
use Rattle.conversion.specs.Spans.{Text, Span, placed, bytes_of}
use Rattle.conversion.specs.Steps.{is_empty, own_texts, or_single, derived_texts}
use Rattle.conversion.specs.Singles.{single_of, with_single}
use Rattle.conversion.specs.declared.singles.Single.{Single}
use Rattle.conversion.specs.declared.singles.Single.TheVariants.{Service, Name, Resource, SpanType}
use Rattle.conversion.specs.View.{placing}
use Rattle.conversion.proofs.Grows.{size}

pub front_filled : (w : ℕ) (t : List ℕ) (r : ℕ) (out : List ℕ) → Filled w t r out → portion out 0 r ≡ t
unfolding portion
front_filled w t r out f = rw (f.text, f.len) (take-padded w t)

pub front_placed : (w : ℕ) (t : List ℕ) (r : ℕ) (out : List ℕ) → Placed w t r out → portion out 0 r ≡ clip w t
unfolding portion
front_placed w t r out f = rw (f.text, f.len) (take-padded w (clip w t))

-- what a span does not have has no text
pub absent_text : (r : Reading) (k : ℕ) → is_some (r.span k) ≡ false → span_text r k ≡ []
absent_text r k h =
    elim (r.span k) as (λ o. is_some o ≡ false → bytes_of_known (text_of o) ≡ []) [
      | None ↦ λ _. refl
      | Some v ↦ λ t. absurd (true≢false t)
    ] h

grow_four : (a b c d s : Span) → size s ≤ size a → size a ≤ size b → size b ≤ size c → size c ≤ size d → size s ≤ size d
grow_four a b c d s p q r t = omega arith

pub grow-with_single : (w : Single) (t : List ℕ) (s : Span) → size s ≤ size (with_single w t s)
unfolding with_single
grow-with_single Service t s = simp length-append (omega arith)
grow-with_single Name t s = simp length-append (omega arith)
grow-with_single Resource t s = simp length-append (omega arith)
grow-with_single SpanType t s = simp length-append (omega arith)

pub grow-or_single : (w : Single) (t : List ℕ) (s : Span) → size s ≤ size (or_single w t s)
unfolding or_single
grow-or_single w t s = cond_both (is_empty (bytes_of (single_of w s))) (with_single w t s) s (λ (e : Span). size s ≤ size e) (λ _. grow-with_single w t s) (λ _. omega arith)

pub or_single-given : (w : Single) (t : List ℕ) (s : Span) → is_empty (bytes_of (single_of w s)) ≡ false → or_single w t s ≡ s
unfolding or_single
or_single-given w t s h = cond-false _ _ _ h

pub or_single-none : (w : Single) (t : List ℕ) (s : Span) → is_empty (bytes_of (single_of w s)) ≡ true → or_single w t s ≡ with_single w t s
unfolding or_single
or_single-none w t s h = cond-true _ _ _ h

pub same-with_single : (w : Single) (t : List ℕ) (s : Span) → size (placing t s) ≤ size (with_single w t s)
unfolding with_single placing
same-with_single Service t s = omega arith
same-with_single Name t s = omega arith
same-with_single Resource t s = omega arith
same-with_single SpanType t s = omega arith

-- a piece in its place
module _ (x y : Span) (p : Text) (t : List ℕ) (e : x ≡ placing t y) (h : p ≡ placed t) where
  pub service_set : record x { service = p } ≡ with_single Service t y
  unfolding with_single placing
  service_set = rw (e, h) refl

  pub name_set : record x { name = p } ≡ with_single Name t y
  unfolding with_single placing
  name_set = rw (e, h) refl

  pub resource_set : record x { resource = p } ≡ with_single Resource t y
  unfolding with_single placing
  resource_set = rw (e, h) refl

  pub type_set : record x { type = p } ≡ with_single SpanType t y
  unfolding with_single placing
  type_set = rw (e, h) refl

pub grow-own_texts : (r : Reading) (s : Span) → size s ≤ size (own_texts r s)
unfolding own_texts
grow-own_texts r s = grow_four (with_single Service _ s) (with_single Name _ _) (with_single Resource _ _) (with_single SpanType _ _) s (grow-with_single Service _ s) (grow-with_single Name _ _) (grow-with_single Resource _ _) (grow-with_single SpanType _ _)

pub grow-derived_texts : (r : Reading) (s : Span) → size s ≤ size (derived_texts r s)
unfolding derived_texts
grow-derived_texts r s = grow_four (or_single Service _ s) (or_single Name _ _) (or_single Resource _ _) (or_single SpanType _ _) s (grow-or_single Service _ s) (grow-or_single Name _ _) (grow-or_single Resource _ _) (grow-or_single SpanType _ _)

pub ruleset singles = (grow-with_single, grow-or_single, same-with_single, or_single-given, or_single-none)

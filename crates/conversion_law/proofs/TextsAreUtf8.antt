-- Of a lawful block, every text of the span is UTF-8.
use Rattle.std.proofs.Common.{ℕ, List, Ok, Err, sym, subst}
use Rattle.std.proofs.lemmas.List.Elements.{All-from_recursion}
use Rattle.blocks.specs.Facts.{facts}
use Rattle.blocks.specs.Lawful.{Lawful}
use Rattle.conversion.specs.Spans.{Text, Span}
use Rattle.conversion.specs.Steps.{steps}
use Rattle.conversion.specs.View.{shown}
use Rattle.conversion_law.specs.TextsAreUtf8.{Utf8Text, Utf8Entry, Utf8Link, Utf8Event, TextsAreUtf8, MakesUtf8, SpanIsUtf8, AcceptedIsUtf8}
use Rattle.conversion_law.specs.Told.{read}
use Rattle.conversion_law.proofs.Answered.{accepted}
use Rattle.conversion_law.proofs.LawfulRows.{sound-rows}
use Rattle.conversion_law.proofs.Utf8Derived.{derives_utf8_lem}
use Rattle.conversion_law.proofs.Utf8Reading.{reads_utf8_lem}
use Rattle.conversion_law.proofs.Utf8Rows.{all-implied, Utf8Told, as-event}
use Rattle.conversion_law.proofs.Utf8Puts.{Utf8Span}
use Rattle.conversion_law.proofs.Utf8Steps.{Utf8Facts, steps-utf8}

facts-utf8 : (m : List ℕ) → Lawful m → Utf8Facts (facts m)
facts-utf8 m w = record { trace_state = w.trace_state.utf8; scope_name = w.scope_name.utf8; scope_version = w.scope_version.utf8; description = w.description.utf8; rows = sound-rows m w }

in-span : (s : Span) → Utf8Span s → TextsAreUtf8 s
in-span s h =
    record {
      service = h.texts.0;
      name = h.texts.1.0;
      resource = h.texts.1.1.0;
      type = h.texts.1.1.1;
      meta = All-from_recursion Utf8Entry s.meta h.meta;
      metrics = All-from_recursion (λ (p : Text × ℕ). Utf8Text p.0) s.metrics (all-implied (λ p. Utf8Text p.0 × Unit {0}) (λ p. Utf8Text p.0) (λ p q. q.0) s.metrics h.metrics);
      links = All-from_recursion Utf8Link s.links h.links;
      events = All-from_recursion Utf8Event s.events (all-implied Utf8Told Utf8Event as-event s.events h.events);
    }

pub makes_utf8_lem : MakesUtf8
makes_utf8_lem m w n r g = in-span _ (steps-utf8 n (facts m) (facts-utf8 m w) r g (derives_utf8_lem r g))

pub span_is_utf8_lem : SpanIsUtf8
span_is_utf8_lem m w n ls = makes_utf8_lem m w n (read ls (facts m)) (reads_utf8_lem m w ls)

pub accepted_is_utf8_lem : AcceptedIsUtf8
accepted_is_utf8_lem m l r g n w (Err e) a = tt
accepted_is_utf8_lem m l r g n w (Ok d) a = subst TextsAreUtf8 (sym (accepted n w (steps n (facts m) r) (shown d) a.answered).is) (makes_utf8_lem m l n r g)

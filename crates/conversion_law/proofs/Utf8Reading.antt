-- What is read of a lawful block is UTF-8, under every pile of layers.
use Rattle.std.proofs.Common.{ℕ, zero, suc, List, [], ◌∷◌, map, get_or, Some, None, Option, IsUtf8, sym, refl, subst}
use Rattle.std.specs.List.{AllByRecursion}
use Rattle.std.specs.Option.{option_map}
use Rattle.std.proofs.lemmas.Bool.{cond_both}
use Rattle.std.proofs.lemmas.Str.{IsUtf8-nil}
use Rattle.names.specs.Keys.{keys}
use Rattle.blocks.specs.Facts.{RowFact, Facts, facts}
use Rattle.readers.specs.Reading.{Known, Reading, text_of, bytes_of}
use Rattle.readers.specs.Tables.{entry_for}
use Rattle.layer.specs.Later.{later_names, earlier_text, earlier_known, is_database_key, later_edition}
use Rattle.layer.specs.Layers.{Layer, later_layer, piled}
use Rattle.span_args.specs.ReadingOf.{last_row_of, reading_of}
use Rattle.conversion_law.specs.NeverClipped.{whole_known, whole_text, whole_reading}
use Rattle.conversion_law.specs.TextsAreUtf8.{ReadingIsUtf8, ReadsUtf8}
use Rattle.conversion_law.proofs.LawfulRows.{Valued, SoundRow, sound-rows}
use Rattle.conversion_law.proofs.NeverClipped.{IfRow, span-value, resource-value, never_clipped_lem}
use Rattle.conversion_law.proofs.Utf8.{entry-utf8}
use Rattle.conversion_law.proofs.Utf8Values.{display-utf8, string-utf8}
use Rattle.conversion_law.proofs.Utf8Derived.{or-absent}

-- under one more layer
earlier-utf8 : (t : List ℕ) → IsUtf8 t → IsUtf8 (earlier_text t)
earlier-utf8 t u = or-absent (entry_for t later_names) t (entry-utf8 t later_names refl) u

known-earlier : (o : Option Known) → IsUtf8 (bytes_of (text_of o)) → IsUtf8 (bytes_of (text_of (option_map earlier_known o)))
known-earlier None u = u
known-earlier (Some k) u = earlier-utf8 k.text u

text-earlier : (o : Option (List ℕ)) → IsUtf8 (bytes_of o) → IsUtf8 (bytes_of (option_map earlier_text o))
text-earlier None u = u
text-earlier (Some t) u = earlier-utf8 t u

later-utf8 : (r : Reading) → ReadingIsUtf8 r → ReadingIsUtf8 (later_edition r)
later-utf8 r h =
    record {
      name = h.name;
      on_span = λ k. cond_both (is_database_key k) (option_map earlier_known (r.span k)) (r.span k) (λ o. IsUtf8 (bytes_of (text_of o))) (λ t. known-earlier (r.span k) (h.on_span k)) (λ f. h.on_span k);
      on_resource = λ k. cond_both (is_database_key k) (option_map earlier_text (r.resource k)) (r.resource k) (λ o. IsUtf8 (bytes_of o)) (λ t. text-earlier (r.resource k) (h.on_resource k)) (λ f. h.on_resource k);
    }

piled-utf8 : (ls : List Layer) (r : Reading) → ReadingIsUtf8 r → ReadingIsUtf8 (piled ls r)
piled-utf8 [] r h = h
piled-utf8 (later_layer ∷ ls) r h = later-utf8 (piled ls r) (piled-utf8 ls r h)

-- of the facts
at-place : {X Y : Type 0} (P : Y → Type 0) (f : X → Y) (d : Y) → P d → ((x : X) → P (f x)) → (xs : List X) (j : ℕ) → P (get_or (map f xs) j d)
at-place P f d p h [] j = p
at-place P f d p h (x ∷ xs) zero = h x
at-place P f d p h (x ∷ xs) (suc j) = at-place P f d p h xs j

known-utf8 : (o : Option RowFact) → IfRow Valued o → IsUtf8 (bytes_of (text_of (option_map whole_known o)))
known-utf8 None v = IsUtf8-nil
known-utf8 (Some a) v = rw v.is (string-utf8 v.datum v.fits v.readable)

shown-utf8 : (o : Option RowFact) → IfRow Valued o → IsUtf8 (bytes_of (option_map whole_text o))
shown-utf8 None v = IsUtf8-nil
shown-utf8 (Some a) v = rw v.is (display-utf8 v.datum v.fits v.readable)

facts-utf8 : (f : Facts) → AllByRecursion SoundRow f.rows → IsUtf8 f.name → ReadingIsUtf8 (whole_reading f)
facts-utf8 f h u =
    record {
      name = u;
      on_span =
          at-place (λ o. IsUtf8 (bytes_of (text_of o))) (λ k. option_map whole_known (last_row_of 0 k f.rows)) None IsUtf8-nil
          (λ k. known-utf8 (last_row_of 0 k f.rows) (span-value f.rows h k))
          keys;
      on_resource =
          at-place (λ o. IsUtf8 (bytes_of o)) (λ k. option_map whole_text (last_row_of 1 k f.rows)) None IsUtf8-nil
          (λ k. shown-utf8 (last_row_of 1 k f.rows) (resource-value f.rows h k))
          keys;
    }

pub reads_utf8_lem : ReadsUtf8
reads_utf8_lem m w ls =
    piled-utf8 ls (reading_of (facts m)) (subst ReadingIsUtf8 (sym (never_clipped_lem m w).reading) (facts-utf8 (facts m) (sound-rows m w) w.name.utf8))

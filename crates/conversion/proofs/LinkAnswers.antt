-- What answers on links say, in the words of the span that is shown.
use Rattle.std.proofs.Common.{◌≡◌, ℕ, List, map, length, Some, None, Option, sym, refl, ap, ◌∙◌}
use Rattle.std.specs.Option.{option_map, option_flatten}
use Rattle.std.specs.List.{slice_get}
use Rattle.std.proofs.lemmas.List.{length-map}
use Rattle.std.proofs.lemmas.Option.{slice_get-map}
use Rattle.blocks.specs.Facts.{RowFact}
use Rattle.blocks.specs.Projections.{Owned, of_list, links_of}
use Rattle.blocks.proofs.Projected.{heads}
use Rattle.span_args.specs.ReadingOf.{datum_at}
use Rattle.conversion.specs.ByKey.{by_key, count_by_key, nth_by_key}
use Rattle.conversion.specs.Forms.{string_form}
use Rattle.conversion.specs.Spans.{Link, Text, bytes_of, texts_under}
use Rattle.conversion.specs.Steps.{link_of}
use Rattle.conversion.specs.Questions.{nth_link_count, nth_link_text}
use Rattle.conversion.proofs.ByKeyLemmas.{length-entries, nth-entry}

pub link-count : (rows : List RowFact) → length (of_list 5 rows) ≡ length (map link_of (links_of rows))
link-count rows =
    sym (ap length (heads 5 6 rows))
    ∙ length-map (links_of rows) (λ (o : Owned). o.head)
    ∙ sym (length-map (links_of rows) link_of)

-- the text of an attribute
abbrev text_of : RowFact → Text
text_of r = string_form (datum_at r)

abbrev said : RowFact → List ℕ × List ℕ
said r = (r.key, bytes_of (text_of r))

-- attributes are rows by key
counts-link : (o : Option Owned) → option_map (λ (l : Link). length l.attributes) (option_map link_of o) ≡ option_map (λ (o : Owned). length (by_key o.attributes)) o
counts-link None = refl
counts-link (Some o) = ap Some (length-entries text_of o.attributes)

pub nth-link_count : (os : List Owned) (n : ℕ) → count_by_key os n ≡ nth_link_count (map link_of os) n
nth-link_count os n = sym (ap (option_map (λ (l : Link). length l.attributes)) (slice_get-map link_of os n) ∙ counts-link (slice_get os n))

text-link : (o : Option Owned) (i : ℕ) → option_flatten (option_map (λ (l : Link). slice_get (texts_under l.attributes) i) (option_map link_of o)) ≡ option_map said (option_flatten (option_map (λ (o : Owned). slice_get (by_key o.attributes) i) o))
text-link None i = refl
text-link (Some o) i = nth-entry text_of (λ p. (bytes_of p.0, bytes_of p.1)) o.attributes i

nth-link_text : (os : List Owned) (n i : ℕ) → nth_link_text (map link_of os) n i ≡ option_map said (nth_by_key os n i)
nth-link_text os n i = ap (λ o. option_flatten (option_map (λ (l : Link). slice_get (texts_under l.attributes) i) o)) (slice_get-map link_of os n) ∙ text-link (slice_get os n) i

pub no_text : (os : List Owned) (n i : ℕ) → None ≡ nth_by_key os n i → None ≡ nth_link_text (map link_of os) n i
no_text os n i e = ap (option_map said) e ∙ sym (nth-link_text os n i)

pub text_there : (os : List Owned) (n i : ℕ) (r : RowFact) (k t : List ℕ) → Some r ≡ nth_by_key os n i → k ≡ r.key → t ≡ bytes_of (text_of r) → Some (k, t) ≡ nth_link_text (map link_of os) n i
text_there os n i r k t e f g = (λ j. Some (f j, g j)) ∙ ap (option_map said) e ∙ sym (nth-link_text os n i)

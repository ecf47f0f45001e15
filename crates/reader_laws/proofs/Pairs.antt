-- Under either name the same is derived, where only one of the two is used.
use Rattle.std.proofs.Common.{◌≡◌, ℕ, true, ◌||◌, List, [], ◌∷◌, is_some, Some, None, Option, refl}
use Rattle.readers.specs.Reading.{Known, text_of, number_of, bytes_of}
use Rattle.readers.specs.Texts.{or_else, or_absent, or_span}
use Rattle.derived.specs.Fields.{narrowed, or_number}
use Rattle.reader_laws.specs.Alike.{or_other}

-- what is derived of the span's s and the resource's r under one key
abbrev text : Option Known → Option (List ℕ) → Option (List ℕ)
text s r = or_span (bytes_of r) (text_of s)

abbrev words : Option Known → List ℕ
words s = bytes_of (text_of s)

abbrev code : Option Known → Option ℕ
code s = narrowed (number_of s)

-- the older name's so and ro and the later name's sl and rl, put as one: in each order of the two keys
pub record SamePair (so sl : Option Known) (ro rl : Option (List ℕ)) : Type 0 where
  pub present : (is_some so || is_some sl) ≡ is_some (or_other sl so)
  pub later_first : or_absent (text sl rl) (or_absent (text so ro) []) ≡ or_absent (text (or_other sl so) (or_other rl ro)) []
  pub older_first : or_absent (text so ro) (or_absent (text sl rl) []) ≡ or_absent (text (or_other sl so) (or_other rl ro)) []
  pub one_by_one : or_else (or_absent (text so ro) []) (or_absent (text sl rl) []) ≡ or_absent (text (or_other sl so) (or_other rl ro)) []
  pub of_span : or_else (words so) (or_else (words sl) []) ≡ or_else (words (or_other sl so)) []
  pub of_resource : or_else (bytes_of rl) (or_else (bytes_of ro) []) ≡ or_else (bytes_of (or_other rl ro)) []
  pub number : or_number (code sl) (code so) ≡ or_number (code (or_other sl so)) None

or_nothing : (t : List ℕ) → or_else t [] ≡ t
or_nothing [] = refl
or_nothing (x ∷ t) = refl

or_no_number : (n : Option ℕ) → n ≡ or_number n None
or_no_number None = refl
or_no_number (Some n) = refl

pub same-pair : (so sl : Option Known) (ro rl : Option (List ℕ)) → ((is_some so || is_some ro) ≡ true → (is_some sl || is_some rl) ≡ true → ⊥) → SamePair so sl ro rl
same-pair None None None None h = record { present = refl; later_first = refl; older_first = refl; one_by_one = refl; of_span = refl; of_resource = refl; number = refl }
same-pair None None None (Some u) h = record { present = refl; later_first = refl; older_first = refl; one_by_one = refl; of_span = refl; of_resource = refl; number = refl }
same-pair None None (Some t) None h = record { present = refl; later_first = refl; older_first = refl; one_by_one = or_nothing (or_absent (text None (Some t)) []); of_span = refl; of_resource = refl; number = refl }
same-pair None None (Some t) (Some u) h = absurd (h refl refl)
same-pair None (Some m) None None h = record { present = refl; later_first = refl; older_first = refl; one_by_one = refl; of_span = refl; of_resource = refl; number = refl }
same-pair None (Some m) None (Some u) h = record { present = refl; later_first = refl; older_first = refl; one_by_one = refl; of_span = refl; of_resource = refl; number = refl }
same-pair None (Some m) (Some t) None h = absurd (h refl refl)
same-pair None (Some m) (Some t) (Some u) h = absurd (h refl refl)
same-pair (Some k) None None None h = record { present = refl; later_first = refl; older_first = refl; one_by_one = or_nothing (or_absent (text (Some k) None) []); of_span = refl; of_resource = refl; number = or_no_number (code (Some k)) }
same-pair (Some k) None None (Some u) h = absurd (h refl refl)
same-pair (Some k) None (Some t) None h = record { present = refl; later_first = refl; older_first = refl; one_by_one = or_nothing (or_absent (text (Some k) (Some t)) []); of_span = refl; of_resource = refl; number = or_no_number (code (Some k)) }
same-pair (Some k) None (Some t) (Some u) h = absurd (h refl refl)
same-pair (Some k) (Some m) None None h = absurd (h refl refl)
same-pair (Some k) (Some m) None (Some u) h = absurd (h refl refl)
same-pair (Some k) (Some m) (Some t) None h = absurd (h refl refl)
same-pair (Some k) (Some m) (Some t) (Some u) h = absurd (h refl refl)

-- A text at the front of memory, read back.
use Rattle.std.proofs.Common.{◌≡◌, ℕ, List, length, Some, None, Option, refl, ap, sym, ◌∙◌}
use Rattle.std.specs.Option.{option_map}
use Rattle.lent_bytes.specs.Memory.{portion, padded}
use Rattle.readers.specs.Reading.{Reading, bytes_of, size_of}
use Rattle.readers.proofs.Fronts.{portion-padded}
use Rattle.reading_report.specs.declared.field.Field.{Field}
use Rattle.reading_report.specs.Names.{text, field_said}

side-back : (w : ℕ) (t : Option (List ℕ)) → option_map (portion (padded w (bytes_of t)) 0) (size_of t) ≡ t
side-back w None = refl
side-back w (Some t) = ap Some (portion-padded w t)

-- as it was read, with the length that was answered
pub side-read : (o : Option (List ℕ)) (w : ℕ) (m : List ℕ) (n : Option ℕ) (t : Option (List ℕ)) → o ≡ option_map (portion m 0) n → m ≡ padded w (bytes_of t) → n ≡ size_of t → o ≡ t
side-read o w m n t e f g = e ∙ ap (λ x. option_map (portion x 0) n) f ∙ ap (option_map (portion (padded w (bytes_of t)) 0)) g ∙ side-back w t

-- the text of a field
pub field-read : (w : ℕ) (o m t : List ℕ) (n : ℕ) (f g : Field) (r : Reading) → o ≡ portion m 0 n → n ≡ length t → m ≡ padded w t → field_said g r ≡ text t → f ≡ g → text o ≡ field_said f r
field-read w o m t n f g r e l p s i =
    ap text (e ∙ ap (portion m 0) l ∙ ap (λ x. portion x 0 (length t)) p ∙ portion-padded w t) ∙ sym s ∙ ap (λ x. field_said x r) (sym i)

-- Layers one on the other, and what they keep.
use Rattle.std.specs.Prelude.{◌≡◌, ℕ, false, List, [], ◌∷◌, is_some}
use Rattle.readers.specs.Reading.{Reading, number_of}
use Rattle.layer.specs.Later.{is_database_key, later_edition}

pub data Layer : Type 0 where
  later_layer : Layer

abbrev pub under : Layer → Reading → Reading
under later_layer r = later_edition r

-- a pile, the first on top
abbrev pub piled : List Layer → Reading → Reading
piled [] r = r
piled (l ∷ ls) r = under l (piled ls r)

-- a reads what b does but for the texts of database systems: the same name and kind, the same attributes with the same
-- numbers, and under all other keys the same texts
pub record Keeps (a b : Reading) : Type 0 where
  pub name : a.name ≡ b.name
  pub kind : a.kind ≡ b.kind
  pub on_span : (k : ℕ) → is_some (a.span k) ≡ is_some (b.span k)
  pub number : (k : ℕ) → number_of (a.span k) ≡ number_of (b.span k)
  pub on_resource : (k : ℕ) → is_some (a.resource k) ≡ is_some (b.resource k)
  pub span_elsewhere : (k : ℕ) → is_database_key k ≡ false → a.span k ≡ b.span k
  pub resource_elsewhere : (k : ℕ) → is_database_key k ≡ false → a.resource k ≡ b.resource k

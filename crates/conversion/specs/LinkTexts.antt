-- The texts of the links' attributes, row by row, and where they lie.
use Rattle.std.specs.Prelude.{◌≡◌, ℕ, ◌+◌, ◌≤◌, Bool, cond, ◌&&◌, ◌||◌, List, [], ◌∷◌, ◌++◌, length, ◌==◌}
use Rattle.lent_bytes.specs.Memory.{portion}
use Rattle.blocks.specs.Facts.{RowFact}
use Rattle.span_args.specs.ReadingOf.{datum_at}
use Rattle.conversion.specs.Spans.{arena_for}
use Rattle.conversion.specs.Forms.{string_form}
use Rattle.conversion.specs.Pieces.{form_text, piece_text}
use Rattle.conversion.specs.declared.pieces.Form.{Form}
use Rattle.conversion.specs.declared.pieces.Piece.{Piece}

-- of a row, where it is an attribute that stands below a link
unfoldable pub link_text : Bool → RowFact → List ℕ
link_text below r = cond (below && r.list == 6) (arena_for (string_form (datum_at r))) []

abbrev pub or_link : Bool → RowFact → Bool
or_link below r = below || r.list == 5

unfoldable pub link_texts : Bool → List RowFact → List ℕ
link_texts below [] = []
link_texts below (r ∷ rs) = link_text below r ++ link_texts (or_link below r) rs

-- the text t lies in the memory a, from the place `at` on
pub record Lies (a : List ℕ) (at : ℕ) (t : List ℕ) : Type 0 where
  pub within : at + length t ≤ length a
  pub text : portion a at (length t) ≡ t

-- the piece p reads the text f, where what is placed of it lies in the arena from `at` on
abbrev pub ReadAt : ℕ → Form → Piece → Type 0
ReadAt at f p = (b a : List ℕ) → Lies a at (arena_for (form_text b f)) → piece_text b a p ≡ form_text b f

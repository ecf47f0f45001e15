-- Rows with the digests of their keys: a search that compares digests first finds what one by bytes alone finds.
use Rattle.std.proofs.Common.{◌≡◌, ℕ, zero, suc, ◌+◌, ◌<◌, ◌==◌, false, cond, ◌&&◌, List, [], ◌∷◌, map, length, take, set, get_or, Some, refl, ap, sym, ◌∙◌, ⊎_elim, true≢false, arith}
use Rattle.std.specs.List.{find, position, position_from}
use Rattle.std.specs.Str.{bytes_eq}
use Rattle.std.proofs.lemmas.Bool.{cases_Bool}
use Rattle.std.proofs.lemmas.Bool.Decides.{Decides-eqb}
use Rattle.std.proofs.lemmas.Slice.Eq.{bytes_eq-Decides}
use Rattle.std.proofs.lemmas.Iterator.Adapters.{position_from-zero}
use Rattle.conversion.specs.Spans.{Text, bytes_of}
use Rattle.conversion.specs.Pieces.{piece_text, meta_pair, no_row}
use Rattle.conversion.specs.Digests.{digest, Digested}
use Rattle.conversion.specs.declared.pieces.MetaRow.{MetaRow}

abbrev first_of : List ℕ → ℕ
first_of [] = 0
first_of (x ∷ xs) = x

abbrev rest_of : List ℕ → List ℕ
rest_of [] = []
rest_of (x ∷ xs) = xs

module _ (b a : List ℕ) where
  abbrev text_of : MetaRow → List ℕ
  text_of r = bytes_of (piece_text b a r.key)

  abbrev Kept : List MetaRow → Type 0
  Kept rows = Digested rows (map (meta_pair b a) rows)

  module _ (k : List ℕ) where
    same : (r : MetaRow) → r.digest ≡ digest (text_of r) → (r.digest == digest k && bytes_eq (text_of r) k) ≡ bytes_eq (text_of r) k
    same r h =
        ⊎_elim
        (λ t. ap (λ x. x && bytes_eq (text_of r) k) t)
        (λ n.
        let other : bytes_eq (text_of r) k ≡ false =
        ⊎_elim
        (λ t.
        let e : text_of r ≡ k = (bytes_eq-Decides (text_of r) k).0 t in
        let d : r.digest ≡ digest k = h ∙ ap digest e in
        absurd (true≢false (sym ((Decides-eqb r.digest (digest k)).1 d) ∙ n)))
        (λ f. f)
        (cases_Bool (bytes_eq (text_of r) k)) in
        ap (λ x. x && bytes_eq (text_of r) k) n ∙ sym other)
        (cases_Bool (r.digest == digest k))

    positions : (rows : List MetaRow) (j : ℕ) → Kept rows → position_from (λ r. r.digest == digest k && bytes_eq (text_of r) k) j rows ≡ position_from (λ r. bytes_eq (text_of r) k) j rows
    positions [] j h = refl
    positions (r ∷ rs) j h = λ i. cond (same r (ap first_of h) i) (Some j) (positions rs (j + 1) (ap rest_of h) i)

    pub same_position : (rows : List MetaRow) → Kept rows → position (λ r. r.digest == digest k && bytes_eq (text_of r) k) rows ≡ position (λ r. bytes_eq (text_of r) k) rows
    same_position rows h = position_from-zero _ rows ∙ positions rows 0 h ∙ sym (position_from-zero _ rows)

    pub same_find : (rows : List MetaRow) → Kept rows → find (λ r. r.digest == digest k && bytes_eq (text_of r) k) rows ≡ find (λ r. bytes_eq (text_of r) k) rows
    same_find [] h = refl
    same_find (r ∷ rs) h = λ i. cond (same r (ap first_of h) i) (Some r) (same_find rs (ap rest_of h) i)

  pub digested_set : (rows : List MetaRow) (n i : ℕ) (e : MetaRow) → (i < length rows → (e.key ≡ (get_or rows i no_row).key) × (e.digest ≡ (get_or rows i no_row).digest)) → Kept (take n rows) → Kept (take n (set rows i e))
  digested_set [] n i e s h = h
  digested_set (r ∷ rs) zero zero e s h = refl
  digested_set (r ∷ rs) zero (suc i) e s h = refl
  digested_set (r ∷ rs) (suc n) zero e s h =
      let t = s (omega arith) in
      let d : e.digest ≡ digest (text_of e) = t.1 ∙ ap first_of h ∙ ap (λ p. digest (bytes_of (piece_text b a p))) (sym t.0) in
      λ j. d j ∷ ap rest_of h j
  digested_set (r ∷ rs) (suc n) (suc i) e s h =
      let ih = digested_set rs n i e (λ l. s (omega arith)) (ap rest_of h) in
      λ j. ap first_of h j ∷ ih j

  pub digested_push : (rows : List MetaRow) (n : ℕ) (e : MetaRow) → n < length rows → e.digest ≡ digest (text_of e) → Kept (take n rows) → Kept (take (n + 1) (set rows n e))
  digested_push [] n e l d h = absurd (omega arith)
  digested_push (r ∷ rs) zero e l d h = λ j. d j ∷ []
  digested_push (r ∷ rs) (suc n) e l d h =
      let ih = digested_push rs n e (omega arith) d (ap rest_of h) in
      let z : suc n + 1 ≡ suc (n + 1) = omega arith in
      rw z (λ j. ap first_of h j ∷ ih j)

-- where the rows mean the same pairs
pub digested_stays : (rows : List MetaRow) (m n : List (Text × Text)) → m ≡ n → Digested rows n → Digested rows m
digested_stays rows m n e h = h ∙ ap (map (λ p. digest (bytes_of p.0))) (sym e)

-- What a look-up in a table gives.
use Rattle.std.proofs.Common.{◌≡◌, ℕ, ◌+◌, ◌≤◌, true, false, cond, leb, List, [], ◌∷◌, map, drop, get_or, length, Some, None, Option, Bor, refl, ap, sym, ◌∙◌, inl, inr, ⊎_elim, arith}
use Rattle.std.specs.List.{find, position, position_from}
use Rattle.std.proofs.lemmas.List.{get_or-drop, drop-drop}
use Rattle.std.proofs.lemmas.Iterator.Adapters.{position_from-zero}
use Rattle.std.specs.Option.{option_map, unwrap_or}
use Rattle.readers.specs.declared.tables.Entry.{Entry}
use Rattle.std.specs.Str.{bytes_eq}
use Rattle.std.proofs.lemmas.Bool.{cases_Bool, and_parts, leb-true, cond-true, cond-false}
use Rattle.readers.specs.Tables.{Pair, entry_for, within, pairs_of, text_at}
use Rattle.readers.specs.Texts.{or_absent}

pub or_some : (o : Option (List ℕ)) (x d : List ℕ) → Some x ≡ o → x ≡ or_absent o d
or_some o x d e = rw (← e)

pub or_none : (o : Option (List ℕ)) (d : List ℕ) → None ≡ o → d ≡ or_absent o d
or_none o d e = rw (← e)

-- with another text where the table has none
pub or_default : (o : Option (Bor (List ℕ))) (d : Bor (List ℕ)) (e : Option (List ℕ)) → option_map (λ x. x.now) o ≡ e → (unwrap_or o d).now ≡ or_absent e d.now
or_default None d e h = rw (← h) refl
or_default (Some x) d e h = rw (← h) refl

-- its texts are as short as the table's
pub entry_within : (w : ℕ) (t : List ℕ) (ps : List Pair) (x : List ℕ) → within w ps ≡ true → Some x ≡ entry_for t ps → length x ≤ w
entry_within w t [] x h e = let z : ◌≡◌ {A = ℕ} 0 1 = cc in absurd (omega arith)
entry_within w t (p ∷ ps) x h e =
    let a = and_parts (leb (length p.into) w) (within w ps) h in
    ⊎_elim
    (λ b. let f : Some x ≡ Some p.into = e ∙ cond-true _ _ _ b in let i : x ≡ p.into = cc in rw i (leb-true (length p.into) w a.0))
    (λ b. entry_within w t ps x a.1 (e ∙ cond-false _ _ _ b))
    (cases_Bool (bytes_eq p.from t))

or_within : (w : ℕ) (t : List ℕ) (ps : List Pair) (d : List ℕ) (o : Option (List ℕ)) → within w ps ≡ true → length d ≤ w → o ≡ entry_for t ps → length (or_absent o d) ≤ w
or_within w t ps d None h l e = l
or_within w t ps d (Some x) h l e = entry_within w t ps x h e

pub default_within : (w : ℕ) (t : List ℕ) (ps : List Pair) (d : List ℕ) → within w ps ≡ true → length d ≤ w → length (or_absent (entry_for t ps) d) ≤ w
default_within w t ps d h l = or_within w t ps d (entry_for t ps) h l refl

-- the library's search, over the rows of the code's table
pub entry_found : (t : List ℕ) (es : List Entry) → option_map (λ e. e.to.now) (find (λ e. bytes_eq e.from.now t) es) ≡ entry_for t (pairs_of es)
entry_found t [] = refl
entry_found t (e ∷ es) =
    elim (cases_Bool (bytes_eq e.from.now t)) [ inl h ↦ rw h refl | inr h ↦ rw h (entry_found t es) ]

-- the row that has a text, by its place
module _ (k : List ℕ) where
  at_place : (es : List Entry) (j : ℕ) (ts : List (List ℕ)) → drop j ts ≡ map (λ e. e.to.now) es → option_map (λ i. get_or ts i []) (position_from (λ e. bytes_eq e.from.now k) j es) ≡ entry_for k (pairs_of es)
  at_place [] j ts h = refl
  at_place (e ∷ es) j ts h =
      let here : get_or ts j [] ≡ e.to.now = (let z : j + 0 ≡ j = omega arith in ap (λ n. get_or ts n []) (sym z) ∙ sym (get_or-drop j ts 0 []) ∙ ap (λ l. get_or l 0 []) h) in
      let later : drop (j + 1) ts ≡ map (λ e. e.to.now) es = sym (drop-drop 1 j ts) ∙ ap (drop 1) h in
      elim (bytes_eq e.from.now k) as (λ b. option_map (λ i. get_or ts i []) (cond b (Some j) (position_from (λ e. bytes_eq e.from.now k) (j + 1) es)) ≡ cond b (Some e.to.now) (entry_for k (pairs_of es))) [
        | true ↦ ap Some here
        | false ↦ at_place es (j + 1) ts later
      ]

  pub place_found : (es : List Entry) → option_map (text_at es) (position (λ e. bytes_eq e.from.now k) es) ≡ entry_for k (pairs_of es)
  place_found es = ap (option_map (text_at es)) (position_from-zero (λ (e : Entry). bytes_eq e.from.now k) es) ∙ at_place es 0 (map (λ e. e.to.now) es) refl

-- Piles of layers read as one.
use Rattle.std.proofs.Common.{◌≡◌, ℕ, Bool, true, false, cond, not, ◌&&◌, List, [], ◌∷◌, is_some, Some, None, Option, refl, ap, sym, ◌∙◌, ⊎_elim}
use mathlib.Core.Path.{fun_ext}
use Rattle.std.specs.Option.{option_map}
use Rattle.std.specs.Str.{bytes_eq}
use Rattle.std.proofs.lemmas.Bool.{both_ways, cases_Bool, and_parts, cond-true, cond-false}
use Rattle.readers.specs.Reading.{Known, Reading, number_of}
use Rattle.readers.specs.Tables.{Pair, entry_for}
use Rattle.readers.specs.Texts.{or_absent}
use Rattle.layer.specs.Later.{later_names, earlier_text, earlier_known, is_database_key, later_edition}
use Rattle.layer.specs.Layers.{Layer, later_layer, piled, Keeps}

-- nothing that the rows ps stand for has a row of qs
abbrev settled : List Pair → List Pair → Bool
settled [] qs = true
settled (p ∷ ps) qs = not (is_some (entry_for p.into qs)) && settled ps qs

none-there : (o : Option (List ℕ)) → not (is_some o) ≡ true → o ≡ None
none-there None e = refl
none-there (Some x) e = absurd (both_ways false refl e)

unread : (t : List ℕ) (ps qs : List Pair) (x : List ℕ) → settled ps qs ≡ true → entry_for t ps ≡ Some x → entry_for x qs ≡ None
unread t [] qs x h e = absurd (both_ways true (ap is_some (sym e)) refl)
unread t (p ∷ ps) qs x h e =
    let a = and_parts (not (is_some (entry_for p.into qs))) (settled ps qs) h in
    ⊎_elim
    (λ b. let f : Some p.into ≡ Some x = sym (cond-true _ _ _ b) ∙ e in let i : p.into ≡ x = cc in rw (← i) (none-there (entry_for p.into qs) a.0))
    (λ b. unread t ps qs x a.1 (sym (cond-false _ _ _ b) ∙ e))
    (cases_Bool (bytes_eq p.from t))

module _ (ps : List Pair) (h : settled ps ps ≡ true) where
  abbrev read : List ℕ → List ℕ
  read t = or_absent (entry_for t ps) t

  read-once : (t : List ℕ) (o : Option (List ℕ)) → entry_for t ps ≡ o → read (read t) ≡ read t
  read-once t None e = ap read (ap (λ o. or_absent o t) e)
  read-once t (Some x) e =
      let i : read t ≡ x = ap (λ o. or_absent o t) e in
      let j : read x ≡ x = ap (λ o. or_absent o x) (unread t ps ps x h e) in
      ap read i ∙ j ∙ sym i

text-once : (t : List ℕ) → earlier_text (earlier_text t) ≡ earlier_text t
text-once t = read-once later_names refl t (entry_for t later_names) refl

known-once : (b : Bool) (o : Option Known) → cond b (option_map earlier_known (cond b (option_map earlier_known o) o)) (cond b (option_map earlier_known o) o) ≡ cond b (option_map earlier_known o) o
known-once true None = refl
known-once true (Some k) = ap (λ t. Some record { text = t; number = k.number }) (text-once k.text)
known-once false o = refl

shown-once : (b : Bool) (o : Option (List ℕ)) → cond b (option_map earlier_text (cond b (option_map earlier_text o) o)) (cond b (option_map earlier_text o) o) ≡ cond b (option_map earlier_text o) o
shown-once true None = refl
shown-once true (Some t) = ap Some (text-once t)
shown-once false o = refl

once : (r : Reading) → later_edition (later_edition r) ≡ later_edition r
once r =
    let s = fun_ext (λ k. known-once (is_database_key k) (r.span k)) in
    let t = fun_ext (λ k. shown-once (is_database_key k) (r.resource k)) in
    λ i. record { name = r.name; kind = r.kind; span = s i; resource = t i }

pub as-one : (r : Reading) (l : Layer) (ls : List Layer) → piled (l ∷ ls) r ≡ later_edition r
as-one r later_layer [] = refl
as-one r later_layer (l ∷ ls) = ap later_edition (as-one r l ls) ∙ once r

-- what is kept
same-known : (b : Bool) (o : Option Known) → is_some (cond b (option_map earlier_known o) o) ≡ is_some o
same-known true None = refl
same-known true (Some k) = refl
same-known false o = refl

same-number : (b : Bool) (o : Option Known) → number_of (cond b (option_map earlier_known o) o) ≡ number_of o
same-number true None = refl
same-number true (Some k) = refl
same-number false o = refl

same-shown : (b : Bool) (o : Option (List ℕ)) → is_some (cond b (option_map earlier_text o) o) ≡ is_some o
same-shown true None = refl
same-shown true (Some t) = refl
same-shown false o = refl

pub keeps : (r : Reading) (ls : List Layer) → Keeps (piled ls r) r
keeps r [] =
    record {
      name = refl;
      kind = refl;
      on_span = λ k. refl;
      number = λ k. refl;
      on_resource = λ k. refl;
      span_elsewhere = λ k e. refl;
      resource_elsewhere = λ k e. refl;
    }
keeps r (later_layer ∷ ls) =
    let p = piled ls r in
    let q = keeps r ls in
    record {
      name = q.name;
      kind = q.kind;
      on_span = λ k. same-known (is_database_key k) (p.span k) ∙ q.on_span k;
      number = λ k. same-number (is_database_key k) (p.span k) ∙ q.number k;
      on_resource = λ k. same-shown (is_database_key k) (p.resource k) ∙ q.on_resource k;
      span_elsewhere = λ k e. cond-false (is_database_key k) _ _ e ∙ q.span_elsewhere k e;
      resource_elsewhere = λ k e. cond-false (is_database_key k) _ _ e ∙ q.resource_elsewhere k e;
    }

-- Calls that change the header: another name, a status, and one more that was dropped.
use Rattle.std.proofs.Common.{◌≡◌, ℕ, ◌+◌, ◌<◌, ◌≤◌, min, ◌⊎◌, List, [], ◌∷◌, ◌++◌, length, IsUtf8, sym, refl, ap, ◌∙◌, subst, inl, inr, ⊎_elim, arith}
use Rattle.std.proofs.lemmas.Bool.{cases_eq, cases_lt}
use Rattle.lent_bytes.specs.Memory.{Bytes, portion, written}
use Rattle.lent_bytes.specs.Fields.{u32_in, bytes4}
use Rattle.blocks.specs.Layout.{rows_in, offset_in, capacity_in, status_in, used_in, text_in, place_in, length_in, row_place, row_at}
use Rattle.blocks.specs.Faults.{list_in}
use Rattle.blocks.specs.Faults.{key_in}
use Rattle.blocks.specs.Facts.{facts, header_text, row_facts, status_of}
use Rattle.blocks.specs.Lawful.{TextLawful}
use Rattle.blocks.specs.declared.span_kind.StatusCode.{StatusCode}
use Rattle.drafts.specs.Held.{Outcome}
use Rattle.drafts.specs.Writes.{headed, drop_more}
use Rattle.block_laws.proofs.Kept.{Kept, byte_kept, byte_place, u32_place, behind, ahead, narrow, portion-none}
use Rattle.block_laws.proofs.Sound.{Sound, Step, Head, head_80, head_88, head_96, head_104, head_112, longest, offset_step, kind-step, sound-step}
use Rattle.block_laws.proofs.Listed.{rows_same}
use Rattle.draft_law.proofs.Headed.{pair_place, pair-length, headed-start, headed-front, headed-behind, has_place, has_length, has_text, headed-step, status-step, flat_step}
use Rattle.draft_law.proofs.Octets.{bytes_of, bytes_append, bytes-written, bytes-four}
use Rattle.draft_law.proofs.Told.{outcome_of, changed, text-lawful-at, head-kept, head-lawful, facts-step}

-- a step of the header alone changes no row
abbrev Ids : List ℕ → List ℕ → ℕ → Type 0
Ids m m' j = j < rows_in m → (list_in m' j ≡ list_in m j) × (key_in m' (row_at m' (row_place j)) ≡ key_in m (row_at m (row_place j)))

no_ids : (m m' : List ℕ) → Sound m → Ids m m' (capacity_in m)
no_ids m m' so h = absurd (omega (arith, so.rows))

pub head-sound : (m m' : List ℕ) (u : ℕ) (so : Sound m) → Step m m' (capacity_in m) (rows_in m) u → Bytes m' → status_in m' ≤ 2 → ((h : ℕ) → Head h → TextLawful m' (place_in m' h) (length_in m' h) (longest h)) → Sound m'
head-sound m m' u so st b s hs = sound-step m m' _ _ _ so st (no_ids m m' so) b s hs (λ lt. absurd (omega (arith, so.rows)))

-- a text of the header at h
module _ (m : List ℕ) (so : Sound m) (h : ℕ) (hd : Head h) (t : List ℕ) (room : offset_in m + (used_in m + length t) ≤ length m) (short : length t ≤ longest h) (utf8 : IsUtf8 t) (bt : Bytes t) where
  abbrev y : List ℕ
  y = headed m h t

  st : Step m y (capacity_in m) (rows_in m) (used_in m + length t)
  st = headed-step m so h hd t room

  text_is : text_in y (used_in m) (length t) ≡ t
  text_is = ap (λ o. portion y (o + used_in m) (length t)) (offset_step m y _ _ _ so st) ∙ has_text m so h hd t room

  pub headed_is : header_text y h ≡ t
  headed_is =
      let a = has_place m so h hd t room in
      let b = has_length m so h hd t room in
      (λ i. text_in y (a i) (b i)) ∙ text_is

  -- the others stay
  pub other_kept : (g : ℕ) → Head g → (g ≡ h → ⊥) → Kept m y g (g + 8)
  other_kept g gd ne =
      let g0 = gd.0 in let g1 = gd.1.0 in let g2 = gd.1.1 in
      let h0 = hd.0 in let h1 = hd.1.0 in let h2 = hd.1.1 in
      ⊎_elim
      (λ (lt : g < h). narrow m y _ _ _ _ (headed-front m so h hd t room) (omega arith) (omega arith))
      (λ (ge : h ≤ g). let gt : h < g = grind arith in narrow m y _ _ _ _ (headed-behind m so h hd t room) (omega arith) (omega (arith, so.offset)))
      (cases_lt g h)

  own_lawful : TextLawful y (place_in y h) (length_in y h) (longest h)
  own_lawful =
      text-lawful-at y h _ _ (longest h) (has_place m so h hd t room) (has_length m so h hd t room) record { short = short; inside = omega (arith, st.used); utf8 = subst IsUtf8 (sym text_is) utf8 }

  pub headed-sound : Sound y
  headed-sound =
      head-sound m y _ so st
      (bytes-written _ _ _ (bytes-written _ _ _ (bytes-written m _ t so.bytes bt) (bytes_append (bytes4 (used_in m)) (bytes4 (length t)) (bytes-four _) (bytes-four _))) (bytes-four _))
      (omega (arith, byte_kept m y _ _ (headed-start m so h hd t room) 11 (omega arith) (omega arith), so.status))
      (λ g gd.
      ⊎_elim
      (λ (e : g ≡ h). subst (λ (x : ℕ). TextLawful y (place_in y x) (length_in y x) (longest x)) (sym e) own_lawful)
      (λ (ne : g ≡ h → ⊥). head-lawful m y _ _ _ so st g gd (other_kept g gd ne))
      (cases_eq g h))

  kept : (g : ℕ) (gd : Head g) → (g ≡ h → ⊥) → header_text y g ≡ header_text m g
  kept g gd ne = head-kept m y _ _ _ so st g gd (other_kept g gd ne)

  pub headed-facts : (o : Outcome) → status_of (status_in m) ≡ o.code → header_text y 112 ≡ o.description → (n : List ℕ) → header_text y 80 ≡ n → (h ≡ 80) ⊎ (h ≡ 112) → facts y ≡ changed (facts m) o n (row_facts m)
  headed-facts o s d n na at =
      facts-step m y (narrow m y _ _ _ _ (headed-front m so h hd t room) (omega arith) (omega (arith, hd.0))) (kind-step m y _ _ _ so st)
      o (ap status_of (byte_kept m y _ _ (headed-start m so h hd t room) 11 (omega arith) (omega arith)) ∙ s) d
      n na
      (kept 88 head_88 (λ e. not 88 e (λ x. omega arith) (λ x. omega arith)))
      (kept 96 head_96 (λ e. not 96 e (λ x. omega arith) (λ x. omega arith)))
      (kept 104 head_104 (λ e. not 104 e (λ x. omega arith) (λ x. omega arith)))
      (row_facts m) (rows_same m y _ _ so st so.rows)
    where
      not : (g : ℕ) → g ≡ h → (g ≡ 80 → ⊥) → (g ≡ 112 → ⊥) → ⊥
      not g e a b = ⊎_elim (λ x. a (e ∙ x)) (λ x. b (e ∙ x)) at

-- another name
pub renamed : (m : List ℕ) (so : Sound m) (t : List ℕ) → offset_in m + (used_in m + length t) ≤ length m → length t ≤ 255 → IsUtf8 t → Bytes t
    → Sound (headed m 80 t) × (facts (headed m 80 t) ≡ changed (facts m) (outcome_of (facts m)) t (row_facts m))
renamed m so t room short u b =
    let hd = head_80 in
    let y = headed m 80 t in
    let st = headed-step m so 80 hd t room in
    let d = head-kept m y _ _ _ so st 112 head_112 (other_kept m so 80 hd t room short u b 112 head_112 (λ e. omega arith)) in
    (headed-sound m so 80 hd t room short u b, headed-facts m so 80 hd t room short u b (outcome_of (facts m)) refl d t (headed_is m so 80 hd t room short u b) (inl refl))

-- a description
pub described : (m : List ℕ) (so : Sound m) (t : List ℕ) → offset_in m + (used_in m + length t) ≤ length m → length t ≤ 1024 → IsUtf8 t → Bytes t
    → Sound (headed m 112 t) × (facts (headed m 112 t) ≡ changed (facts m) (record { code = (facts m).status; description = t }) (facts m).name (row_facts m))
described m so t room short u b =
    let hd = head_112 in
    let y = headed m 112 t in
    let st = headed-step m so 112 hd t room in
    let n = head-kept m y _ _ _ so st 80 head_80 (other_kept m so 112 hd t room short u b 80 head_80 (λ e. omega arith)) in
    (headed-sound m so 112 hd t room short u b, headed-facts m so 112 hd t room short u b (record { code = (facts m).status; description = t }) refl (headed_is m so 112 hd t room short u b) _ n (inr refl))

-- a number of the header away from the places of its texts
number-set : (m : List ℕ) (so : Sound m) (at : ℕ) (s : List ℕ) → Step m (written m at s) (capacity_in m) (rows_in m) (used_in m) → Bytes s → status_in (written m at s) ≤ 2
    → Kept m (written m at s) 16 64 → ((g : ℕ) → Head g → Kept m (written m at s) g (g + 8)) → (c : StatusCode) → status_of (status_in (written m at s)) ≡ c
    → Sound (written m at s) × (facts (written m at s) ≡ changed (facts m) (record { code = c; description = (facts m).description }) (facts m).name (row_facts m))
number-set m so at s st bs le ids k c is =
    let z = written m at s in
    let hk : (g : ℕ) (gd : Head g) → header_text z g ≡ header_text m g = λ g gd. head-kept m z _ _ _ so st g gd (k g gd) in (
      head-sound m z _ so st (bytes-written m at s so.bytes bs) le (λ g gd. head-lawful m z _ _ _ so st g gd (k g gd)),
      facts-step m z ids (kind-step m z _ _ _ so st)
          (record { code = c; description = (facts m).description }) is (hk 112 head_112)
          (facts m).name (hk 80 head_80) (hk 88 head_88) (hk 96 head_96) (hk 104 head_104)
          (row_facts m) (rows_same m z _ _ so st so.rows),
    )

-- a status alone
pub status-set : (m : List ℕ) (so : Sound m) (s : ℕ) → s ≤ 2
    → Sound (written m 11 (s ∷ [])) × (facts (written m 11 (s ∷ [])) ≡ changed (facts m) (record { code = status_of s; description = (facts m).description }) (facts m).name (row_facts m))
status-set m so s le =
    let z = written m 11 (s ∷ []) in
    let is : status_in z ≡ s = byte_place m 11 (s ∷ []) 11 0 (omega arith) (omega (arith, so.offset, so.used)) (omega arith) in
    number-set m so 11 (s ∷ []) (status-step m so 11 (s ∷ []) refl refl) (bytes_of (s ∷ []) (omega arith, tt)) (omega arith) (ahead m 11 (s ∷ []) _ _ (omega arith)) (λ g gd. ahead m 11 (s ∷ []) _ _ (omega (arith, gd.0))) (status_of s) (ap status_of is)

-- one more that was dropped
pub dropped : (m : List ℕ) (so : Sound m) (at : ℕ) → 64 ≤ at → at ≤ 72 → Sound (drop_more m at) × (facts (drop_more m at) ≡ facts m)
dropped m so at low high =
    let s = bytes4 (min 4294967295 (u32_in m at + 1)) in
    let z = drop_more m at in
    let same = byte_kept m z 0 64 (behind m at s _ _ (omega arith)) 11 (omega arith) (omega arith) in
    number-set m so at s (flat_step m so at s (omega arith) (omega arith) (inl (omega arith))) (bytes-four _) (omega (arith, same, so.status)) (behind m at s _ _ (omega arith)) (λ g gd. ahead m at s _ _ (omega (arith, gd.0))) (facts m).status (ap status_of same)

-- no description
pub undescribed : (m : List ℕ) (so : Sound m)
    → Sound (written m 112 (bytes4 0 ++ bytes4 0)) × (facts (written m 112 (bytes4 0 ++ bytes4 0)) ≡ changed (facts m) (record { code = (facts m).status; description = [] }) (facts m).name (row_facts m))
undescribed m so =
    let s = bytes4 0 ++ bytes4 0 in
    let z = written m 112 s in
    let st = flat_step m so 112 s (omega arith) (omega arith) (inr (omega arith)) in
    let end : 120 ≤ length m = omega (arith, so.offset, so.used) in
    let p : place_in z 112 ≡ 0 = u32_place m 112 s 112 0 (omega arith) (omega arith) (omega arith) ∙ pair_place 0 0 (omega arith) in
    let n : length_in z 112 ≡ 0 = u32_place m 112 s 116 4 (omega arith) (omega arith) (omega arith) ∙ pair-length 0 0 (omega arith) in
    let none : text_in z 0 0 ≡ [] = portion-none z _ in
    let k : (g : ℕ) → Head g → (g ≡ 112 → ⊥) → Kept m z g (g + 8) = λ g gd ne. behind m 112 s _ _ (let a = gd.1.0 in let b = gd.1.1 in let lt : g < 112 = grind arith in omega arith) in
    let hk : (g : ℕ) (gd : Head g) → (g ≡ 112 → ⊥) → header_text z g ≡ header_text m g = λ g gd ne. head-kept m z _ _ _ so st g gd (k g gd ne) in
    let own = text-lawful-at z 112 0 0 (longest 112) p n record { short = omega arith; inside = omega arith; utf8 = subst IsUtf8 (sym none) ([], (refl, refl)) } in
    let same = byte_kept m z 0 112 (behind m 112 s _ _ (omega arith)) 11 (omega arith) (omega arith) in (
      head-sound m z _ so st (bytes-written m 112 s so.bytes (bytes_append (bytes4 0) (bytes4 0) (bytes-four 0) (bytes-four 0))) (omega (arith, same, so.status))
          (λ g gd. ⊎_elim
          (λ (e : g ≡ 112). subst (λ (x : ℕ). TextLawful z (place_in z x) (length_in z x) (longest x)) (sym e) own)
          (λ (ne : g ≡ 112 → ⊥). head-lawful m z _ _ _ so st g gd (k g gd ne))
          (cases_eq g 112)),
      facts-step m z (behind m 112 s _ _ (omega arith)) (kind-step m z _ _ _ so st)
          (record { code = (facts m).status; description = [] }) (ap status_of same) ((λ i. text_in z (p i) (n i)) ∙ none)
          (facts m).name (hk 80 head_80 (λ e. omega arith)) (hk 88 head_88 (λ e. omega arith)) (hk 96 head_96 (λ e. omega arith)) (hk 104 head_104 (λ e. omega arith))
          (row_facts m) (rows_same m z _ _ so st so.rows),
    )

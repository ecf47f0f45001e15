-- The facts of the header over a step, and its texts.
use Rattle.std.proofs.Common.{◌≡◌, ℕ, ◌+◌, List, sym, ◌∙◌, subst, arith}
use Rattle.blocks.specs.Layout.{kind_in, status_in, text_in, place_in, length_in}
use Rattle.blocks.specs.Facts.{Facts, RowFact, facts, header_text, row_facts, span_kind_of, status_of}
use Rattle.blocks.specs.Lawful.{TextLawful}
use Rattle.drafts.specs.Held.{Outcome}
use Rattle.block_laws.proofs.Kept.{Kept, u32_kept, i64_kept, id_kept}
use Rattle.block_laws.proofs.Sound.{Sound, Step, Head, longest, text-step, text-lawful-step}

abbrev pub outcome_of : Facts → Outcome
outcome_of f = record { code = f.status; description = f.description }

-- facts with another status, description, name and rows
abbrev pub changed : Facts → Outcome → List ℕ → List RowFact → Facts
changed f o n rs =
    record {
      trace_high = f.trace_high;
      trace_low = f.trace_low;
      span_id = f.span_id;
      parent_id = f.parent_id;
      start = f.start;
      finish = f.finish;
      kind = f.kind;
      status = o.code;
      name = n;
      trace_state = f.trace_state;
      scope_name = f.scope_name;
      scope_version = f.scope_version;
      description = o.description;
      rows = rs;
    }

-- a header text whose place and length are known
pub text-lawful-at : (z : List ℕ) (h p n most : ℕ) → place_in z h ≡ p → length_in z h ≡ n → TextLawful z p n most → TextLawful z (place_in z h) (length_in z h) most
text-lawful-at z h p n most a b t = subst (λ x. TextLawful z x (length_in z h) most) (sym a) (subst (λ y. TextLawful z p y most) (sym b) t)

module _ (m m' : List ℕ) (j n u : ℕ) (so : Sound m) (st : Step m m' j n u) (h : ℕ) (hd : Head h) (k : Kept m m' h (h + 8)) where
  same_place : place_in m' h ≡ place_in m h
  same_place = u32_kept m m' _ _ k h (omega arith) (omega arith)

  same_length : length_in m' h ≡ length_in m h
  same_length = u32_kept m m' _ _ k (h + 4) (omega arith) (omega arith)

  pub head-kept : header_text m' h ≡ header_text m h
  head-kept = (λ x. text_in m' (same_place x) (same_length x)) ∙ text-step m m' j n u so st (place_in m h) (length_in m h) (so.heads h hd).inside

  pub head-lawful : TextLawful m' (place_in m' h) (length_in m' h) (longest h)
  head-lawful = text-lawful-at m' h _ _ (longest h) same_place same_length (text-lawful-step m m' j n u so st _ _ _ (so.heads h hd))

-- all facts, from those that a call may change
pub facts-step : (m m' : List ℕ) → Kept m m' 16 64 → kind_in m' ≡ kind_in m
    → (o : Outcome) → status_of (status_in m') ≡ o.code → header_text m' 112 ≡ o.description
    → (t : List ℕ) → header_text m' 80 ≡ t → header_text m' 88 ≡ header_text m 88 → header_text m' 96 ≡ header_text m 96 → header_text m' 104 ≡ header_text m 104
    → (rs : List RowFact) → row_facts m' ≡ rs → facts m' ≡ changed (facts m) o t rs
facts-step m m' k e o s d t na ts sn sv rs r =
    let a = id_kept m m' _ _ k 16 (omega arith) (omega arith) in
    let b = id_kept m m' _ _ k 24 (omega arith) (omega arith) in
    let c = id_kept m m' _ _ k 32 (omega arith) (omega arith) in
    let f = id_kept m m' _ _ k 40 (omega arith) (omega arith) in
    let g = i64_kept m m' _ _ k 48 (omega arith) (omega arith) in
    let h = i64_kept m m' _ _ k 56 (omega arith) (omega arith) in
    λ i. record {
      trace_high = a i;
      trace_low = b i;
      span_id = c i;
      parent_id = f i;
      start = g i;
      finish = h i;
      kind = span_kind_of (e i);
      status = s i;
      name = na i;
      trace_state = ts i;
      scope_name = sn i;
      scope_version = sv i;
      description = d i;
      rows = r i;
    }

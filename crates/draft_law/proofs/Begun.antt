-- A draft that has started: sound, with the facts that the start says and no rows.
use Rattle.std.proofs.Common.{◌≡◌, ℕ, ◌+◌, ◌^◌, ◌<◌, ◌≤◌, ◌&&◌, leb, List, [], ◌++◌, map, length, get_or, ℤ, None, IsUtf8, sym, refl, ap, ◌∙◌, subst, ⊎_elim, arith, lit<, rules}
use Rattle.std.specs.List.{range_with_len}
use Rattle.std.specs.Option.{option_map}
use Rattle.std.proofs.lemmas.Bool.{cases_eq, and_parts, leb-true}
use Rattle.std.proofs.lemmas.List.{places, same_lists, length-append, length-replicate}
use Rattle.lent_bytes.specs.Memory.{Bytes, portion, written}
use Rattle.lent_bytes.specs.Fields.{u16_in, u32_in, i64_in, id_in, be8}
use Rattle.lent_bytes.proofs.Frames.{length-written, le2-bytes2, le4-bytes4, le8-bytes8, int8-ints8}
use Rattle.blocks.specs.Layout.{version_in, rows_in, offset_in, capacity_in, kind_in, status_in, used_in, text_in, place_in, length_in, row_place}
use Rattle.blocks.specs.Facts.{facts, header_text, row_fact, row_facts, span_kind_of, status_of}
use Rattle.blocks.specs.Lawful.{TextLawful}
use Rattle.blocks.specs.declared.span_kind.StatusCode.TheVariants.{Unset}
use Rattle.drafts.specs.declared.refusal.StartFault.TheVariants.{Kind, Memory, Text as StartText, NoRoom as StartNoRoom}
use Rattle.drafts.specs.Calls.{Opening, SizedOpening}
use Rattle.drafts.specs.Writes.{id_bytes, opening_texts, head_bytes, started}
use Rattle.drafts.specs.Memory.{text_refusal, start_texts, start_memory, start_fault}
use Rattle.block_laws.proofs.Kept.{Kept, byte_kept, byte_place, u16_kept, u16_place, u32_kept, u32_place, i64_kept, i64_place, id_kept, id_place, portion-place, behind, portion_first, portion-whole}
use Rattle.block_laws.proofs.Sound.{Sound, Head, longest}
use Rattle.drafts.specs.Code.{zeros}
use Rattle.draft_law.proofs.Octets.{low, bytes_of, bytes_append, bytes-written, bytes-zeros}
use Rattle.draft_law.proofs.Told.{text-lawful-at}
use Rattle.draft_law.proofs.Accepted.{or_none, else_none, mapped-none, text_tells}
use Rattle.blocks.proofs.Projected.{rows_mapped}

-- what a start that is not refused has been found to meet
pub record StartTells (n : ℕ) (o : Opening) : Type 0 where
  pub first_kind : 1 ≤ o.kind
  pub last_kind : o.kind ≤ 5
  pub least : 120 ≤ n
  pub most : n ≤ 65536
  pub capacity : o.capacity ≤ 1024
  pub rows : row_place o.capacity ≤ n
  pub name : (length o.name ≤ 255) × IsUtf8 o.name
  pub trace_state : (length o.trace_state ≤ 512) × IsUtf8 o.trace_state
  pub scope_name : (length o.scope_name ≤ 255) × IsUtf8 o.scope_name
  pub scope_version : (length o.scope_version ≤ 255) × IsUtf8 o.scope_version
  pub texts : row_place o.capacity + length (opening_texts o) ≤ n

pub start_tells : (n : ℕ) (o : Opening) → start_fault n o ≡ None → StartTells n o
start_tells n o h =
    let a = else_none (leb 1 o.kind && leb o.kind 5) _ Kind h in
    let b = else_none (start_memory n o.capacity) _ Memory a.1 in
    let c = or_none (option_map StartText (start_texts o)) _ b.1 in
    let d = else_none (leb (row_place o.capacity + length (opening_texts o)) n) None StartNoRoom c.1 in
    let k = and_parts (leb 1 o.kind) _ a.0 in
    let m1 = and_parts (leb 120 n) _ b.0 in
    let m2 = and_parts (leb n 65536) _ m1.1 in
    let m3 = and_parts (leb o.capacity 1024) _ m2.1 in
    let t1 = or_none (text_refusal 255 o.name) _ (mapped-none StartText _ c.0) in
    let t2 = or_none (text_refusal 512 o.trace_state) _ t1.1 in
    let t3 = or_none (text_refusal 255 o.scope_name) _ t2.1 in
    record {
      first_kind = leb-true _ _ k.0;
      last_kind = leb-true _ _ k.1;
      least = leb-true _ _ m1.0;
      most = leb-true _ _ m2.0;
      capacity = leb-true _ _ m3.0;
      rows = leb-true _ _ m3.1;
      name = text_tells 255 o.name t1.0;
      trace_state = text_tells 512 o.trace_state t2.0;
      scope_name = text_tells 255 o.scope_name t3.0;
      scope_version = text_tells 255 o.scope_version t3.1;
      texts = leb-true _ _ d.0;
    }

-- a part behind the first text
portion-skip : (a r : List ℕ) (q p k : ℕ) → q ≡ length a + p → portion (a ++ r) q k ≡ portion r p k
unfolding portion
portion-skip a r q p k h = same_lists _ _ (search (rules, places)) (λ i d l. grind (arith, places))

-- an id, from its bytes
be8_id : (v : ℕ) → v < 2 ^ 64 → be8 (id_bytes v) ≡ v
be8_id v h = let e = le8-bytes8 v h in omega arith

-- the five places of header texts
head_cases : (P : ℕ → Type 0) → P 80 → P 88 → P 96 → P 104 → P 112 → (h : ℕ) → Head h → P h
head_cases P a b c d e h hd =
    let low = hd.0 in let high = hd.1.0 in let eighth = hd.1.1 in
    ⊎_elim (λ (x : h ≡ 80). subst P (sym x) a) (λ (n1 : h ≡ 80 → ⊥).
    ⊎_elim (λ (x : h ≡ 88). subst P (sym x) b) (λ (n2 : h ≡ 88 → ⊥).
    ⊎_elim (λ (x : h ≡ 96). subst P (sym x) c) (λ (n3 : h ≡ 96 → ⊥).
    ⊎_elim (λ (x : h ≡ 104). subst P (sym x) d) (λ (n4 : h ≡ 104 → ⊥). let x : h ≡ 112 = grind arith in subst P (sym x) e)
    (cases_eq h 104)) (cases_eq h 96)) (cases_eq h 88)) (cases_eq h 80)

module _ (n : ℕ) (o : Opening) (sz : SizedOpening o) (ok : StartTells n o) where
  abbrev hd : List ℕ
  hd = head_bytes o

  abbrev ts : List ℕ
  ts = opening_texts o

  abbrev c : ℕ
  c = o.capacity

  abbrev h : List ℕ
  h = written (zeros n) 0 hd

  abbrev s : List ℕ
  s = written h (row_place c) ts

  abbrev la : ℕ
  la = length o.name

  abbrev lb : ℕ
  lb = length o.trace_state

  abbrev lc : ℕ
  lc = length o.scope_name

  abbrev ld : ℕ
  ld = length o.scope_version

  wide : length hd ≡ 120
  wide = refl

  all : length ts ≡ la + (lb + (lc + ld))
  all = length-append o.name _ ∙ ap (λ x. la + x) (length-append o.trace_state _ ∙ ap (λ x. lb + x) (length-append o.scope_name o.scope_version))

  size-h : length h ≡ n
  size-h = length-written (zeros n) 0 hd ∙ length-replicate {A = ℕ} n 0

  size : length s ≡ n
  size = length-written h _ ts ∙ size-h

  fit : 0 + length hd ≤ length (zeros n)
  fit = omega (arith, wide, length-replicate {A = ℕ} n 0, ok.least)

  front : Kept h s 0 120
  front = behind h (row_place c) ts 0 120 (omega arith)

  byte_is : (a : ℕ) → a + 1 ≤ 120 → get_or s a 0 ≡ get_or hd a 0
  byte_is a l = byte_kept h s 0 120 front a (omega arith) l ∙ byte_place (zeros n) 0 hd a a (omega arith) fit (omega (arith, wide))

  u16_is : (a : ℕ) → a + 2 ≤ 120 → u16_in s a ≡ u16_in hd a
  u16_is a l = u16_kept h s 0 120 front a (omega arith) l ∙ u16_place (zeros n) 0 hd a a (omega arith) fit (omega (arith, wide))

  u32_is : (a : ℕ) → a + 4 ≤ 120 → u32_in s a ≡ u32_in hd a
  u32_is a l = u32_kept h s 0 120 front a (omega arith) l ∙ u32_place (zeros n) 0 hd a a (omega arith) fit (omega (arith, wide))

  i64_is : (a : ℕ) → a + 8 ≤ 120 → i64_in s a ≡ i64_in hd a
  i64_is a l = i64_kept h s 0 120 front a (omega arith) l ∙ i64_place (zeros n) 0 hd a a (omega arith) fit (omega (arith, wide))

  id_is : (a : ℕ) → a + 8 ≤ 120 → id_in s a ≡ id_in hd a
  id_is a l = id_kept h s 0 120 front a (omega arith) l ∙ id_place (zeros n) 0 hd a a (omega arith) fit (omega (arith, wide))

  version : version_in s ≡ 1
  unfolding portion
  version = u16_is 0 (omega arith)

  rows : rows_in s ≡ 0
  unfolding portion
  rows = u16_is 2 (omega arith)

  offset : offset_in s ≡ row_place c
  unfolding portion
  offset = u32_is 4 (omega arith) ∙ le4-bytes4 (row_place c) (omega (arith, ok.capacity))

  capacity : capacity_in s ≡ c
  unfolding portion
  capacity = u16_is 8 (omega arith) ∙ le2-bytes2 c sz.capacity

  kind : kind_in s ≡ o.kind
  kind = byte_is 10 (omega arith)

  status : status_in s ≡ 0
  status = byte_is 11 (omega arith)

  short : la + (lb + (lc + ld)) ≤ 65536
  short = omega (arith, all, ok.texts, ok.most)

  used : used_in s ≡ la + (lb + (lc + ld))
  unfolding portion
  used = u32_is 12 (omega arith) ∙ le4-bytes4 (la + (lb + (lc + ld))) (omega (arith, short))

  trace_high : id_in s 16 ≡ o.trace_high
  unfolding portion
  trace_high = id_is 16 (omega arith) ∙ be8_id o.trace_high sz.trace_high

  trace_low : id_in s 24 ≡ o.trace_low
  unfolding portion
  trace_low = id_is 24 (omega arith) ∙ be8_id o.trace_low sz.trace_low

  span_id : id_in s 32 ≡ o.span_id
  unfolding portion
  span_id = id_is 32 (omega arith) ∙ be8_id o.span_id sz.span_id

  parent_id : id_in s 40 ≡ o.parent_id
  unfolding portion
  parent_id = id_is 40 (omega arith) ∙ be8_id o.parent_id sz.parent_id

  start : i64_in s 48 ≡ o.start
  unfolding portion
  start = i64_is 48 (omega arith) ∙ int8-ints8 o.start sz.start

  -- the texts, one after another
  text_at : (p k : ℕ) → p + k ≤ length ts → text_in s p k ≡ portion ts p k
  text_at p k l = ap (λ x. portion s (x + p) k) offset ∙ portion-place h (row_place c) ts (row_place c + p) p refl (omega (arith, size-h, ok.texts)) k l

  -- a header text whose place and length were written
  module _ (at p k most : ℕ) (t : List ℕ) (is-p : place_in s at ≡ p) (is-k : length_in s at ≡ k) (inside : p + k ≤ length ts) (is : portion ts p k ≡ t) where
    text_is : header_text s at ≡ t
    text_is = (λ i. text_in s (is-p i) (is-k i)) ∙ text_at p k inside ∙ is

    text-lawful : k ≤ most → IsUtf8 t → TextLawful s (place_in s at) (length_in s at) most
    text-lawful m u =
        text-lawful-at s at p k most is-p is-k record { short = m; inside = omega (arith, inside, all, used); utf8 = subst IsUtf8 (sym (text_at p k inside ∙ is)) u }

  four_80 : u32_in s 80 ≡ 0
  unfolding portion
  four_80 = u32_is 80 (omega arith)

  four_84 : u32_in s 84 ≡ la
  unfolding portion
  four_84 = u32_is 84 (omega arith) ∙ le4-bytes4 la (omega (arith, short))

  four_88 : u32_in s 88 ≡ la
  unfolding portion
  four_88 = u32_is 88 (omega arith) ∙ le4-bytes4 la (omega (arith, short))

  four_92 : u32_in s 92 ≡ lb
  unfolding portion
  four_92 = u32_is 92 (omega arith) ∙ le4-bytes4 lb (omega (arith, short))

  four_96 : u32_in s 96 ≡ la + lb
  unfolding portion
  four_96 = u32_is 96 (omega arith) ∙ le4-bytes4 (la + lb) (omega (arith, short))

  four_100 : u32_in s 100 ≡ lc
  unfolding portion
  four_100 = u32_is 100 (omega arith) ∙ le4-bytes4 lc (omega (arith, short))

  four_104 : u32_in s 104 ≡ la + (lb + lc)
  unfolding portion
  four_104 = u32_is 104 (omega arith) ∙ le4-bytes4 (la + (lb + lc)) (omega (arith, short))

  four_108 : u32_in s 108 ≡ ld
  unfolding portion
  four_108 = u32_is 108 (omega arith) ∙ le4-bytes4 ld (omega (arith, short))

  four_112 : u32_in s 112 ≡ 0
  unfolding portion
  four_112 = u32_is 112 (omega arith)

  four_116 : u32_in s 116 ≡ 0
  unfolding portion
  four_116 = u32_is 116 (omega arith)

  part_name : portion ts 0 la ≡ o.name
  part_name = portion_first o.name _

  part_state : portion ts la lb ≡ o.trace_state
  part_state = portion-skip o.name _ la 0 lb (omega arith) ∙ portion_first o.trace_state _

  part_scope : portion ts (la + lb) lc ≡ o.scope_name
  part_scope = portion-skip o.name _ (la + lb) lb lc refl ∙ portion-skip o.trace_state _ lb 0 lc (omega arith) ∙ portion_first o.scope_name _

  part_version : portion ts (la + (lb + lc)) ld ≡ o.scope_version
  part_version = portion-skip o.name _ (la + (lb + lc)) (lb + lc) ld refl ∙ portion-skip o.trace_state _ (lb + lc) lc ld refl ∙ portion-skip o.scope_name _ lc 0 ld (omega arith) ∙ portion-whole o.scope_version

  part_none : portion ts 0 0 ≡ []
  unfolding portion
  part_none = refl

  bytes-head : Bytes hd
  bytes-head = let k = sz.kind in bytes_of hd (lit< tt, (lit< tt, (lit< tt, (lit< tt, (low _, (low _, (low _, (low _, (low _, (low _, (k, (lit< tt, (low _, (low _, (low _, (low _, (low _, (low _, (low _, (low _, (low _, (low _, (low _, (low _, (low _, (low _, (low _, (low _, (low _, (low _, (low _, (low _, (low _, (low _, (low _, (low _, (low _, (low _, (low _, (low _, (low _, (low _, (low _, (low _, (low _, (low _, (low _, (low _, (low _, (low _, (low _, (low _, (low _, (low _, (low _, (low _, (lit< tt, (lit< tt, (lit< tt, (lit< tt, (lit< tt, (lit< tt, (lit< tt, (lit< tt, (lit< tt, (lit< tt, (lit< tt, (lit< tt, (lit< tt, (lit< tt, (lit< tt, (lit< tt, (lit< tt, (lit< tt, (lit< tt, (lit< tt, (lit< tt, (lit< tt, (lit< tt, (lit< tt, (lit< tt, (lit< tt, (lit< tt, (lit< tt, (low _, (low _, (low _, (low _, (low _, (low _, (low _, (low _, (low _, (low _, (low _, (low _, (low _, (low _, (low _, (low _, (low _, (low _, (low _, (low _, (low _, (low _, (low _, (low _, (low _, (low _, (low _, (low _, (lit< tt, (lit< tt, (lit< tt, (lit< tt, (lit< tt, (lit< tt, (lit< tt, (lit< tt, tt))))))))))))))))))))))))))))))))))))))))))))))))))))))))))))))))))))))))))))))))))))))))))))))))))))))))))))))))))))))))

  begun_sound : Sound s
  begun_sound =
      record {
        bytes = bytes-written h _ ts (bytes-written (zeros n) 0 hd (bytes-zeros n) bytes-head) (bytes_append o.name _ sz.name (bytes_append o.trace_state _ sz.trace_state (bytes_append o.scope_name o.scope_version sz.scope_name sz.scope_version)));
        small = omega (arith, size, ok.most);
        version = version;
        first_kind = omega (arith, kind, ok.first_kind);
        last_kind = omega (arith, kind, ok.last_kind);
        status = omega (arith, status);
        zero_77 = byte_is 77 (omega arith);
        zero_78 = byte_is 78 (omega arith);
        zero_79 = byte_is 79 (omega arith);
        capacity = omega (arith, capacity, ok.capacity);
        rows = omega (arith, rows);
        offset = offset ∙ ap row_place (sym capacity);
        used = omega (arith, offset, used, size, ok.texts, all);
        heads = head_cases (λ a. TextLawful s (place_in s a) (length_in s a) (longest a))
            (text-lawful 80 0 la 255 o.name four_80 four_84 (omega (arith, all)) part_name ok.name.0 ok.name.1)
            (text-lawful 88 la lb 512 o.trace_state four_88 four_92 (omega (arith, all)) part_state ok.trace_state.0 ok.trace_state.1)
            (text-lawful 96 (la + lb) lc 255 o.scope_name four_96 four_100 (omega (arith, all)) part_scope ok.scope_name.0 ok.scope_name.1)
            (text-lawful 104 (la + (lb + lc)) ld 255 o.scope_version four_104 four_108 (omega (arith, all)) part_version ok.scope_version.0 ok.scope_version.1)
            (text-lawful 112 0 0 1024 [] four_112 four_116 (omega arith) part_none (omega arith) ([], (refl, refl)));
        each = λ i lt. absurd (omega (arith, rows));
      }

  no_rows : row_facts s ≡ []
  no_rows = rows_mapped s ∙ ap (λ k. map (row_fact s) (range_with_len 0 k)) rows

  begun_facts : (t : ℤ) → i64_in s 56 ≡ t
      → facts s ≡ record {
        trace_high = o.trace_high;
        trace_low = o.trace_low;
        span_id = o.span_id;
        parent_id = o.parent_id;
        start = o.start;
        finish = t;
        kind = span_kind_of o.kind;
        status = Unset;
        name = o.name;
        trace_state = o.trace_state;
        scope_name = o.scope_name;
        scope_version = o.scope_version;
        description = [];
        rows = [];
      }
  begun_facts t f =
      let st = ap status_of status in
      let na = text_is 80 0 la 255 o.name four_80 four_84 (omega (arith, all)) part_name in
      let tr = text_is 88 la lb 512 o.trace_state four_88 four_92 (omega (arith, all)) part_state in
      let sn = text_is 96 (la + lb) lc 255 o.scope_name four_96 four_100 (omega (arith, all)) part_scope in
      let sv = text_is 104 (la + (lb + lc)) ld 255 o.scope_version four_104 four_108 (omega (arith, all)) part_version in
      let de = text_is 112 0 0 1024 [] four_112 four_116 (omega arith) part_none in
      λ i. record {
        trace_high = trace_high i;
        trace_low = trace_low i;
        span_id = span_id i;
        parent_id = parent_id i;
        start = start i;
        finish = f i;
        kind = span_kind_of (kind i);
        status = st i;
        name = na i;
        trace_state = tr i;
        scope_name = sn i;
        scope_version = sv i;
        description = de i;
        rows = no_rows i;
      }

  pub start-sound : Sound (started n o)
  unfolding started
  start-sound = begun_sound

  pub start-facts : facts (started n o) ≡ record {
    trace_high = o.trace_high;
    trace_low = o.trace_low;
    span_id = o.span_id;
    parent_id = o.parent_id;
    start = o.start;
    finish = i64_in (started n o) 56;
    kind = span_kind_of o.kind;
    status = Unset;
    name = o.name;
    trace_state = o.trace_state;
    scope_name = o.scope_name;
    scope_version = o.scope_version;
    description = [];
    rows = [];
  }
  unfolding started
  start-facts = begun_facts _ refl

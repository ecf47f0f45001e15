-- A draft that has ended: a lawful block with the facts that were held.
use Rattle.std.proofs.Common.{◌≡◌, ℕ, ◌+◌, ◌≤◌, List, [], ◌∷◌, map, length, ℤ, sym, refl, ap, ◌∙◌, inl, arith, w64, SFits, of_z}
use Rattle.lent_bytes.specs.Memory.{Bytes, portion, written}
use Rattle.lent_bytes.specs.Fields.{i64_in, ints8}
use Rattle.lent_bytes.proofs.Frames.{int8-ints8}
use Rattle.keyed.specs.Keyed.{inserts}
use Rattle.keyed.proofs.Inserted.{inserts-all}
use Rattle.blocks.specs.Layout.{rows_in, capacity_in, status_in, used_in, state_in}
use Rattle.blocks.specs.Facts.{Facts, facts, row_facts, span_kind_of, status_of}
use Rattle.blocks.specs.Lawful.{Lawful}
use Rattle.blocks.proofs.Lawfully.{opened_exactly}
use Rattle.drafts.specs.Held.{stated, named, passed, made, nothing, row_of, same_id, held}
use Rattle.drafts.specs.Search.{count}
use Rattle.drafts.specs.Writes.{started, ended}
use Rattle.drafts.specs.Memory.{past, answers}
use Rattle.draft_law.specs.Law.{HoldsWhatWasSaid}
use Rattle.block_laws.proofs.Kept.{Kept, byte_kept, byte_place, i64_kept, i64_place, id_kept, behind, ahead}
use Rattle.block_laws.proofs.Sound.{Sound, Step, Head, head_80, head_88, head_96, head_104, head_112, kind-step}
use Rattle.block_laws.proofs.Listed.{rows_same}
use Rattle.draft_law.proofs.Headed.{flat_step}
use Rattle.draft_law.proofs.Octets.{bytes_of, bytes-written, octets_eight}
use Rattle.draft_law.proofs.Tagged.{same_id_decides, tagged, untagged}
use Rattle.draft_law.proofs.Told.{outcome_of, head-kept, head-lawful}
use Rattle.draft_law.proofs.Renamed.{head-sound}
use Rattle.draft_law.proofs.Past.{tagged-past, sound-past, part_past, fixed-past}
use Rattle.draft_law.proofs.Begun.{start_tells, start-sound, start-facts}

abbrev finished : Facts → ℤ → Facts
finished f t =
    record {
      trace_high = f.trace_high;
      trace_low = f.trace_low;
      span_id = f.span_id;
      parent_id = f.parent_id;
      start = f.start;
      finish = t;
      kind = f.kind;
      status = f.status;
      name = f.name;
      trace_state = f.trace_state;
      scope_name = f.scope_name;
      scope_version = f.scope_version;
      description = f.description;
      rows = f.rows;
    }

-- a number of the header behind the text used and before the zeros, which changes no text and no row
module _ (m : List ℕ) (so : Sound m) (at : ℕ) (s : List ℕ) (low : 56 ≤ at) (high : at + length s ≤ 77) (bs : Bytes s) where
  abbrev z : List ℕ
  z = written m at s

  st : Step m z (capacity_in m) (rows_in m) (used_in m)
  st = flat_step m so at s (omega arith) (omega arith) (inl high)

  kept : (g : ℕ) → Head g → Kept m z g (g + 8)
  kept g gd = ahead m at s _ _ (omega (arith, gd.0))

  same-status : status_in z ≡ status_in m
  same-status = byte_kept m z 0 56 (behind m at s _ _ low) 11 (omega arith) (omega arith)

  flat_sound : Sound z
  flat_sound = head-sound m z _ so st (bytes-written m at s so.bytes bs) (omega (arith, same-status, so.status)) (λ g gd. head-lawful m z _ _ _ so st g gd (kept g gd))

  flat_facts : (t : ℤ) → i64_in z 56 ≡ t → facts z ≡ finished (facts m) t
  flat_facts t f =
      let k = behind m at s 0 56 low in
      let a = id_kept m z 0 56 k 16 (omega arith) (omega arith) in
      let b = id_kept m z 0 56 k 24 (omega arith) (omega arith) in
      let c = id_kept m z 0 56 k 32 (omega arith) (omega arith) in
      let d = id_kept m z 0 56 k 40 (omega arith) (omega arith) in
      let e = i64_kept m z 0 56 k 48 (omega arith) (omega arith) in
      let g = kind-step m z _ _ _ so st in
      let na = head-kept m z _ _ _ so st 80 head_80 (kept 80 head_80) in
      let tr = head-kept m z _ _ _ so st 88 head_88 (kept 88 head_88) in
      let sn = head-kept m z _ _ _ so st 96 head_96 (kept 96 head_96) in
      let sv = head-kept m z _ _ _ so st 104 head_104 (kept 104 head_104) in
      let de = head-kept m z _ _ _ so st 112 head_112 (kept 112 head_112) in
      let rs = rows_same m z _ _ so st so.rows in
      λ i. record {
        trace_high = a i;
        trace_low = b i;
        span_id = c i;
        parent_id = d i;
        start = e i;
        finish = f i;
        kind = span_kind_of (g i);
        status = status_of (same-status i);
        name = na i;
        trace_state = tr i;
        scope_name = sn i;
        scope_version = sv i;
        description = de i;
        rows = rs i;
      }

-- the end
module _ (m : List ℕ) (so : Sound m) (end : ℤ) (fits : SFits w64 end) where
  abbrev e1 : List ℕ
  e1 = written m 56 (ints8 end)

  abbrev e2 : List ℕ
  e2 = written e1 76 (1 ∷ [])

  bytes-time : Bytes (ints8 end)
  bytes-time = bytes_of (ints8 end) (octets_eight (of_z w64 end))

  sound_1 : Sound e1
  sound_1 = flat_sound m so 56 (ints8 end) (omega arith) (omega arith) bytes-time

  sound_2 : Sound e2
  sound_2 = flat_sound e1 sound_1 76 (1 ∷ []) (omega arith) (omega arith) (bytes_of (1 ∷ []) (omega arith, tt))

  time_is : i64_in e1 56 ≡ end
  unfolding portion
  time_is = i64_place m 56 (ints8 end) 56 0 (omega arith) (omega (arith, so.offset, so.used)) (omega arith) ∙ int8-ints8 end fits

  facts_are : facts e2 ≡ finished (facts m) end
  facts_are =
      flat_facts e1 sound_1 76 (1 ∷ []) (omega arith) (omega arith) (bytes_of (1 ∷ []) (omega arith, tt)) end (i64_kept e1 e2 0 76 (behind e1 _ _ _ _ (omega arith)) 56 (omega arith) (omega arith) ∙ time_is)
      ∙ ap (λ f. finished f end) (flat_facts m so 56 (ints8 end) (omega arith) (omega arith) bytes-time end time_is)

  state_is : state_in e2 ≡ 1
  state_is = byte_place e1 76 (1 ∷ []) 76 0 (omega arith) (omega (arith, sound_1.offset, sound_1.used)) (omega arith)

  lawful_2 : Lawful e2
  lawful_2 =
      let s = sound_2 in
      record {
        frame = record {
          least = omega (arith, s.offset, s.used);
          most = s.small;
          version = s.version;
          first_kind = s.first_kind;
          last_kind = s.last_kind;
          status = s.status;
          ended = state_is;
          zero_77 = s.zero_77;
          zero_78 = s.zero_78;
          zero_79 = s.zero_79;
          capacity = s.capacity;
          rows = s.rows;
          offset = s.offset;
          used = s.used;
        };
        name = s.heads 80 head_80;
        trace_state = s.heads 88 head_88;
        scope_name = s.heads 96 head_96;
        scope_version = s.heads 104 head_104;
        description = s.heads 112 head_112;
        rows = s.each;
      }

  pub ended-facts : facts (ended m end) ≡ finished (facts m) end
  unfolding ended
  ended-facts = facts_are

  pub ended-lawful : Lawful (ended m end)
  unfolding ended
  ended-lawful = lawful_2

  pub ended-bytes : Bytes (ended m end)
  unfolding ended
  ended-bytes = sound_2.bytes

pub holds_what_was_said_lem : HoldsWhatWasSaid
holds_what_was_said_lem n o sz ok cs cz end fits =
    let tells = start_tells n o ok in
    let s = started n o in
    let ns = answers s cs in
    let so = start-sound n o sz tells in
    let sf = start-facts n o sz tells in
    let m = past s cs in
    let sm = sound-past cs s so cz in
    let none = ap (λ (f : Facts). f.rows) sf in
    let t = tagged-past cs s so cz ∙ ap (λ x. inserts same_id (tagged 0 0 x) (made (count 3 x) (count 5 x) cs ns)) none ∙ inserts-all same_id same_id_decides nothing (made 0 0 cs ns) in
    let rs = sym (untagged 0 0 (row_facts m)) ∙ ap (λ x. map (λ p. row_of p.0 p.1) x) t in
    let a = fixed-past (λ f. f.trace_high) (λ b c f. refl) cs s so cz ∙ ap (λ (f : Facts). f.trace_high) sf in
    let b = fixed-past (λ f. f.trace_low) (λ b c f. refl) cs s so cz ∙ ap (λ (f : Facts). f.trace_low) sf in
    let c = fixed-past (λ f. f.span_id) (λ b c f. refl) cs s so cz ∙ ap (λ (f : Facts). f.span_id) sf in
    let d = fixed-past (λ f. f.parent_id) (λ b c f. refl) cs s so cz ∙ ap (λ (f : Facts). f.parent_id) sf in
    let e = fixed-past (λ f. f.start) (λ b c f. refl) cs s so cz ∙ ap (λ (f : Facts). f.start) sf in
    let k = fixed-past (λ f. f.kind) (λ b c f. refl) cs s so cz ∙ ap (λ (f : Facts). f.kind) sf in
    let tr = fixed-past (λ f. f.trace_state) (λ b c f. refl) cs s so cz ∙ ap (λ (f : Facts). f.trace_state) sf in
    let sn = fixed-past (λ f. f.scope_name) (λ b c f. refl) cs s so cz ∙ ap (λ (f : Facts). f.scope_name) sf in
    let sv = fixed-past (λ f. f.scope_version) (λ b c f. refl) cs s so cz ∙ ap (λ (f : Facts). f.scope_version) sf in
    let na = part_past (λ f. f.name) named (λ b c f. refl) cs s so cz ∙ ap (λ (f : Facts). passed named f.name cs ns) sf in
    let out = part_past outcome_of stated (λ b c f. refl) cs s so cz ∙ ap (λ (f : Facts). passed stated (outcome_of f) cs ns) sf in
    let held-are : facts m ≡ held o cs ns (facts m).finish = λ i. record {
      trace_high = a i;
      trace_low = b i;
      span_id = c i;
      parent_id = d i;
      start = e i;
      finish = (facts m).finish;
      kind = k i;
      status = (out i).code;
      name = na i;
      trace_state = tr i;
      scope_name = sn i;
      scope_version = sv i;
      description = (out i).description;
      rows = rs i;
    } in
    let lawful = ended-lawful m sm end fits in
    record {
      holds = ended-facts m sm end fits ∙ ap (λ f. finished f end) held-are;
      lawful = lawful;
      opens = (opened_exactly (ended m end) (ended-bytes m sm end fits)).1 lawful;
    }

-- The error that the status says, and its texts.
use Rattle.std.proofs.Common.{◌≡◌, ℕ, ◌+◌, ◌-◌, ◌≤◌, Bool, true, false, cond, List, [], ◌∷◌, ◌++◌, length, take, drop, codes, Some, None, Option, is_some, pos, ℤ, refl, ap, sym, ◌∙◌, ⊎_elim, arith, rules}
use Rattle.std.specs.List.{find}
use Rattle.std.proofs.lemmas.Bool.{cases_Bool, cond-true, cond-false, cond_both}
use Rattle.std.proofs.lemmas.List.{append-nil, append_assoc, length-append, length-take-le, length-drop, drop-drop, drop-take, drop_at, places, same_lists}
use Rattle.lent_bytes.specs.Memory.{portion, written}
use Rattle.blocks.specs.Facts.{Facts}
use Rattle.conversion.specs.Spans.{Text, Span, quoted, lent, placed, bytes_of, found}
use Rattle.conversion.specs.Tables.{place_of, set_meta, push_meta}
use Rattle.conversion.specs.Pieces.{rows_end, piece_text, piece_end, meta_end}
use Rattle.conversion.specs.Steps.{put_meta, put_again, key_arena, each, exception, or_other, is_empty, is_error, described, code_message, other_message, said_message, message, with_error, by_status, all_told, last_error}
use Rattle.conversion.specs.View.{view, Made, Failed, placing, joined}
use Rattle.conversion.specs.declared.pieces.Piece.{Piece}
use Rattle.conversion.specs.declared.pieces.MetaRow.{MetaRow}
use Rattle.conversion.specs.declared.unfinished.UnfinishedSpan.{UnfinishedSpan}
use Rattle.conversion.proofs.Chains.{kept_more, failed_more}
use Rattle.conversion.proofs.Held.{piece_stays}
use Rattle.conversion.proofs.Grows.{size, grow-put_meta}
use Rattle.conversion.proofs.EventLemmas.{grow-exceptions}
use Rattle.conversion.proofs.OwnLemmas.{le_then}
use Rattle.conversion.proofs.Ways.{put-old, put-new}

-- a row that is found has its text in what is used
held_in : (t : MetaRow → Bool) (rows : List MetaRow) (r : MetaRow) (u : ℕ) → find t rows ≡ Some r → meta_end rows ≤ u → piece_end r.value ≤ u
unfolding rows_end
held_in t [] r u e l = absurd (cc)
held_in t (q ∷ qs) r u e l =
    ⊎_elim
    (λ y. let i : Some q ≡ Some r = sym (cond-true _ _ _ y) ∙ e in let j : q ≡ r = cc in rw (← j) (omega arith))
    (λ y. held_in t qs r u (sym (cond-false _ _ _ y) ∙ e) (omega arith))
    (cases_Bool (t q))

pub held_value : (t : MetaRow → Bool) (rows : List MetaRow) (o : Option MetaRow) (r : MetaRow) (u : ℕ) → o ≡ find t rows → o ≡ Some r → meta_end rows ≤ u → piece_end r.value ≤ u
held_value t rows o r u h g l = held_in t rows r u (sym h ∙ g) l

-- what is written again behind the first u bytes of an arena
over_front : (a x : List ℕ) (u : ℕ) → u ≤ length a → take u a ++ written (drop u a) 0 x ≡ written a u x
unfolding written
over_front a x u h =
    let e : length (drop u a) - 0 ≡ length a - u = let l = length-drop u a in omega arith in
    let d : drop (0 + length x) (drop u a) ≡ drop (u + length x) a = ap (λ n. drop n (drop u a)) (let z : 0 + length x ≡ length x = omega arith in z) ∙ drop-drop (length x) u a in
    rw (e, d) refl

front_same : (a : List ℕ) (u at n : ℕ) → at + n ≤ u → portion (take u a) at n ≡ portion a at n
unfolding portion
front_same a u at n h = same_lists _ _ (search (rules, places)) (λ k d l. grind (arith, places))

pub written_again : (b a f r m : List ℕ) (u : ℕ) (p : Piece) → f ≡ take u a → r ≡ drop u a → m ≡ written r 0 (bytes_of (piece_text b f p)) → piece_end p ≤ u → u ≤ length a → f ++ m ≡ written a u (bytes_of (piece_text b a p))
written_again b a f r m u p e g h l n =
    let s : piece_text b (take u a) p ≡ piece_text b a p = piece_stays b a (take u a) u (front_same a u) p l in
    let w : m ≡ written (drop u a) 0 (bytes_of (piece_text b a p)) = h ∙ (λ i. written (g i) 0 (bytes_of (piece_text b (e i) p))) ∙ ap (λ t. written (drop u a) 0 (bytes_of t)) s in
    (λ i. e i ++ w i) ∙ over_front a (bytes_of (piece_text b a p)) u n

-- three texts, one behind another
placing-more : (t u : List ℕ) (s : Span) → placing (t ++ u) s ≡ placing u (placing t s)
unfolding placing
placing-more t u s = rw append_assoc refl

grow-placing : (t : List ℕ) (s : Span) → size s ≤ size (placing t s)
unfolding placing
grow-placing t s = let l = length-append s.arena t in omega arith

placing-thrice : (a w b : List ℕ) (s : Span) → placing (a ++ (w ++ b)) s ≡ placing b (placing w (placing a s))
placing-thrice a w b s = placing-more a (w ++ b) s ∙ placing-more w b (placing a s)

module _ (s e : UnfinishedSpan) (a w b : List ℕ) where
  pub stopped_second : Failed s e (placing w (placing a (view s))) → Failed s e (placing (a ++ (w ++ b)) (view s))
  stopped_second f =
      let g = grow-placing b (placing w (placing a (view s))) in
      let z : size (placing (a ++ (w ++ b)) (view s)) ≡ size (placing b (placing w (placing a (view s)))) = ap size (placing-thrice a w b (view s)) in
      failed_more s e (placing w (placing a (view s))) (placing (a ++ (w ++ b)) (view s)) f (omega arith)

  pub stopped_first : Failed s e (placing a (view s)) → Failed s e (placing (a ++ (w ++ b)) (view s))
  stopped_first f =
      let h = grow-placing w (placing a (view s)) in
      stopped_second (failed_more s e (placing a (view s)) (placing w (placing a (view s))) f (omega arith))

  pub stopped_third : (m : UnfinishedSpan) (c : List ℕ) → c ≡ b → Made s m (placing w (placing a (view s))) → Failed m e (placing c (view m)) → Failed s e (placing (a ++ (w ++ b)) (view s))
  stopped_third m c q p f =
      let o = f.over in
      let r = p.kept.room in
      let z : size (placing c (view m)) ≡ size (placing (a ++ (w ++ b)) (view s)) = ap size ((λ i. placing (q i) (p.is i)) ∙ sym (placing-thrice a w b (view s))) in
      record { kept = kept_more s m e p.kept f.kept; over = omega arith }

  pub made_third : (m : UnfinishedSpan) (c : List ℕ) → c ≡ b → Made s m (placing w (placing a (view s))) → Made m e (placing c (view m)) → Made s e (placing (a ++ (w ++ b)) (view s))
  made_third m c q p f = record { kept = kept_more s m e p.kept f.kept; is = f.is ∙ (λ i. placing (q i) (p.is i)) ∙ sym (placing-thrice a w b (view s)) }

-- they are read back as one
reads_all : (a m x : List ℕ) (u v : ℕ) → take v m ≡ take u a ++ x → u ≤ length a → v ≤ length m → portion m u (v - u) ≡ x
unfolding portion
reads_all a m x u v e h l =
    let f : length (take u a) ≡ u = length-take-le u a h in
    let g : length (take v m) ≡ v = length-take-le v m l in
    let n : v ≡ u + length x = let t = ap length e in let y = length-append (take u a) x in omega arith in
    let d : u + (v - u) ≡ v = omega arith in
    sym (drop-take u (v - u) m) ∙ ap (λ k. drop u (take k m)) d ∙ ap (drop u) e ∙ drop_at (take u a) x u f

pub reads_placed : (s e : UnfinishedSpan) (x : List ℕ) → Made s e (placing x (view s)) → portion e.arena.now s.used (e.used - s.used) ≡ x
unfolding placing
reads_placed s e x p = reads_all s.arena.now e.arena.now x s.used e.used (ap (λ (t : Span). t.arena) p.is) s.room e.room

-- a text that the span has already, under a key of the program's own
module _ (n : ℕ) (k : List ℕ) (v : Text) (s : Span) where
  quoted_none : key_arena (quoted k) s.meta ≡ []
  unfolding key_arena
  quoted_none =
      elim (is_some (found k s.meta)) as (λ b. cond {A = List ℕ} b [] [] ≡ []) [
        | true ↦ refl
        | false ↦ refl
      ]

  pub again-old : (i : ℕ) → length s.meta ≤ n → place_of k s.meta ≡ Some i → put_again n (quoted k) v s ≡ set_meta i v s
  unfolding put_again set_meta
  again-old i l h = rw (put-old n (quoted k) v s.meta i l h, quoted_none, append-nil) refl

  pub again-new : place_of k s.meta ≡ None → put_again n (quoted k) v s ≡ push_meta n (quoted k) v s
  unfolding put_again push_meta
  again-new h = rw (put-new n (quoted k) v s.meta h, quoted_none, append-nil) refl

  pub grow-put_again : size s ≤ size (put_again n (quoted k) v s)
  unfolding put_again
  grow-put_again = let l = length-append s.arena (key_arena (quoted k) s.meta) in omega arith

again-placed : (n : ℕ) (k x : List ℕ) (s : Span) → put_again n (quoted k) (placed x) (placing x s) ≡ put_meta n (quoted k) (placed x) s
unfolding put_again put_meta placing
again-placed n k x s = rw (quoted_none n k (placed x) s, append-nil) refl

module _ (k x : List ℕ) (a b c : UnfinishedSpan) where
  pub put_placed : (v : Text) → v ≡ placed x → Made a b (placing x (view a)) → Made b c (put_again (length b.meta.now) (quoted k) v (view b)) → Made a c (put_meta (length a.meta.now) (quoted k) (placed x) (view a))
  put_placed v q p r =
      record {
        kept = kept_more a b c p.kept r.kept;
        is = r.is ∙ (λ i. put_again (p.kept.rows i) (quoted k) (q i) (p.is i)) ∙ again-placed (length a.meta.now) k x (view a);
      }

module _ (k x : List ℕ) (a b : UnfinishedSpan) where
  pub put_full : Failed a b (placing x (view a)) → Failed a b (put_meta (length a.meta.now) (quoted k) (placed x) (view a))
  put_full f =
      let s : Span = view a in
      let n = length a.meta.now in
      let g = grow-put_again n k (placed x) (placing x s) in
      let z : size (put_again n (quoted k) (placed x) (placing x s)) ≡ size (put_meta n (quoted k) (placed x) s) = ap size (again-placed n k x s) in
      failed_more a b (placing x s) (put_meta n (quoted k) (placed x) s) f (omega arith)

-- the message
module _ (n : ℕ) (s : Span) where
  pub code-again : (c : Text) (o : Option Text) → o ≡ None → code_message n (Some c) o s ≡ put_again n (quoted (codes "error.message")) c s
  unfolding code_message
  code-again c o h = rw h refl

  pub code-joined : (c t : Text) (o : Option Text) → o ≡ Some t → code_message n (Some c) o s ≡ put_meta n (quoted (codes "error.message")) (placed (joined c t)) s
  unfolding code_message
  code-joined c t o h = rw h refl

  abbrev code : Option Text
  code = or_other (found (codes "http.response.status_code") s.meta) (found (codes "http.status_code") s.meta)

  pub other-none : code ≡ None → other_message n s ≡ s
  unfolding other_message code_message
  other-none h = ap (λ o. code_message n o (found (codes "http.status_text") s.meta) s) h

  pub other-some : (c : Text) → code ≡ Some c → other_message n s ≡ code_message n (Some c) (found (codes "http.status_text") s.meta) s
  unfolding other_message
  other-some c h = ap (λ o. code_message n o (found (codes "http.status_text") s.meta) s) h

  grow-code_message : (c t : Option Text) → size s ≤ size (code_message n c t s)
  unfolding code_message
  grow-code_message None t = omega arith
  grow-code_message (Some c) None = grow-put_again n (codes "error.message") c s
  grow-code_message (Some c) (Some t) = grow-put_meta n (quoted (codes "error.message")) (placed (joined c t)) s

  grow-other_message : size s ≤ size (other_message n s)
  unfolding other_message
  grow-other_message = grow-code_message code (found (codes "http.status_text") s.meta)

module _ (n : ℕ) (t : Text) (s : Span) where
  pub said-other : is_empty (bytes_of t) ≡ true → said_message n t s ≡ other_message n s
  unfolding said_message
  said-other h = cond-true _ _ _ h

  pub said-put : is_empty (bytes_of t) ≡ false → said_message n t s ≡ put_meta n (quoted (codes "error.message")) t s
  unfolding said_message
  said-put h = cond-false _ _ _ h

  grow-said_message : size s ≤ size (said_message n t s)
  unfolding said_message
  grow-said_message =
      cond_both (is_empty (bytes_of t)) (other_message n s) (put_meta n (quoted (codes "error.message")) t s) (λ (x : Span). size s ≤ size x) (λ _. grow-other_message n s) (λ _. grow-put_meta n _ _ s)

module _ (n : ℕ) (f : Facts) (s : Span) where
  pub message-there : is_some (found (codes "error.message") s.meta) ≡ true → message n f s ≡ s
  unfolding message
  message-there h = cond-true _ _ _ h

  pub message-said : is_some (found (codes "error.message") s.meta) ≡ false → message n f s ≡ said_message n (lent (described f)) s
  unfolding message
  message-said h = cond-false _ _ _ h

  pub grow-message : size s ≤ size (message n f s)
  unfolding message
  grow-message =
      cond_both (is_some (found (codes "error.message") s.meta)) s (said_message n (lent (described f)) s) (λ (x : Span). size s ≤ size x) (λ _. omega arith) (λ _. grow-said_message n (lent (described f)) s)

-- by the status
pub same-with_error : (z : ℤ) (s : Span) → size (with_error z s) ≡ size s
unfolding with_error
same-with_error z s = refl

abbrev texts : ℕ → Facts → Span → Span
texts n f s = message n f (each (exception n) s.events s)

module _ (n : ℕ) (f : Facts) (s : Span) where
  pub after_exceptions : size s ≤ size (message n f s)
  after_exceptions = grow-message n f s

  pub after_error_texts : size s ≤ size (with_error (pos 1) s)
  after_error_texts = let z = same-with_error (pos 1) s in omega arith

  pub status-error : is_error f.status ≡ true → by_status n f s ≡ with_error (pos 1) (texts n f s)
  unfolding by_status
  status-error h = cond-true _ _ _ h

  pub status-none : is_error f.status ≡ false → by_status n f s ≡ with_error (pos 0) s
  unfolding by_status
  status-none h = cond-false _ _ _ h

  grow-texts : size s ≤ size (with_error (pos 1) (texts n f s))
  grow-texts =
      let z = same-with_error (pos 1) (texts n f s) in
      let a = le_then _ _ _ (grow-exceptions n s.events s) (grow-message n f (each (exception n) s.events s)) in
      omega arith

  grow-by_status : size s ≤ size (by_status n f s)
  unfolding by_status
  grow-by_status = cond_both (is_error f.status) (with_error (pos 1) (texts n f s)) (with_error (pos 0) s) (λ (x : Span). size s ≤ size x) (λ _. grow-texts) (λ _. let z = same-with_error (pos 0) s in omega arith)

  pub last-told : all_told s ≡ true → last_error n f s ≡ s
  unfolding last_error
  last-told h = cond-true _ _ _ h

  pub last-status : all_told s ≡ false → last_error n f s ≡ by_status n f s
  unfolding last_error
  last-status h = cond-false _ _ _ h

  pub grow-last_error : size s ≤ size (last_error n f s)
  unfolding last_error
  grow-last_error = cond_both (all_told s) s (by_status n f s) (λ (x : Span). size s ≤ size x) (λ _. omega arith) (λ _. grow-by_status)

-- None of the first n numbers passes a test exactly where 0 of them do.
use Rattle.std.proofs.Common.{◌≡◌, ℕ, zero, suc, ◌+◌, ◌<◌, Bool, true, false, ◌&&◌, eqb, List, [], ◌∷◌, length, filter, Decides, sym, refl, ap, ◌∙◌, subst, ⊎_elim, arith}
use Rattle.std.specs.List.{range_with_len, list_all, AllByRecursion}
use Rattle.std.proofs.lemmas.Bool.{false≢true, cases_Bool, cond-true, cond-false, and_parts, and_from, eqb-true, eq-eqb}
use Rattle.conversion_sides.specs.declared.entries.Apart.{Apart}
use Rattle.conversion_sides.specs.Compared.{none_apart}

module _ (test : ℕ → Bool) where
  abbrev passing : ℕ → ℕ → List ℕ
  passing a n = filter test (range_with_len a n)

  next-none : (a n : ℕ) → test a ≡ false → ((j : ℕ) → j < n → test (a + 1 + j) ≡ false) → (i : ℕ) → i < suc n → test (a + i) ≡ false
  next-none a n m more zero lt = subst (λ k. test k ≡ false) (omega arith) m
  next-none a n m more (suc j) lt = subst (λ k. test k ≡ false) (omega arith) (more j (omega arith))

  pub none-pass : (a n : ℕ) → length (passing a n) ≡ 0 → (i : ℕ) → i < n → test (a + i) ≡ false
  none-pass a zero h i lt = absurd (omega arith)
  none-pass a (suc n) h i lt =
      let more = passing (a + 1) n in
      ⊎_elim
      (λ y. let e : length (passing a (suc n)) ≡ suc (length more) = ap length (cond-true (test a) (a ∷ more) more y) in absurd (omega arith))
      (λ m. next-none a n m (none-pass (a + 1) n (ap length (sym (cond-false (test a) (a ∷ more) more m)) ∙ h)) i lt)
      (cases_Bool (test a))

  pub none-counted : (a n : ℕ) → ((i : ℕ) → test i ≡ false) → length (passing a n) ≡ 0
  none-counted a zero h = refl
  none-counted a (suc n) h = ap length (cond-false (test a) (a ∷ passing (a + 1) n) (passing (a + 1) n) (h a)) ∙ none-counted (a + 1) n h

-- that nothing is counted apart
pub record NoneApart (a : Apart) : Type 0 where
  pub differ : a.differ ≡ 0
  pub only_left : a.only_left ≡ 0
  pub only_right : a.only_right ≡ 0

pub none_apart-Decides : (a : Apart) → Decides (none_apart a) (NoneApart a)
none_apart-Decides a = (
  (λ e.
      let p = and_parts (eqb a.differ 0) _ e in
      let q = and_parts (eqb a.only_left 0) (eqb a.only_right 0) p.1 in
      record { differ = eqb-true a.differ 0 p.0; only_left = eqb-true a.only_left 0 q.0; only_right = eqb-true a.only_right 0 q.1 }),
  (λ h. and_from (eqb a.differ 0) _ (eq-eqb a.differ 0 h.differ) (and_from (eqb a.only_left 0) (eqb a.only_right 0) (eq-eqb a.only_left 0 h.only_left) (eq-eqb a.only_right 0 h.only_right))),
)

pub and-given : (x y r : Bool) → x ≡ true → r ≡ y → r ≡ (x && y)
and-given true y r h e = e
and-given false y r h e = absurd (false≢true h)

module _ {A : Type 0} (test : A → Bool) where
  pub none-in : (xs : List A) → length (filter test xs) ≡ 0 → AllByRecursion (λ x. test x ≡ false) xs
  none-in [] h = tt
  none-in (x ∷ xs) h =
      let more = filter test xs in
      ⊎_elim
      (λ y. let e : length (filter test (x ∷ xs)) ≡ suc (length more) = ap length (cond-true (test x) (x ∷ more) more y) in absurd (omega arith))
      (λ m. (m, none-in xs (ap length (sym (cond-false (test x) (x ∷ more) more m)) ∙ h)))
      (cases_Bool (test x))

  pub none-of : (xs : List A) → AllByRecursion (λ x. test x ≡ false) xs → length (filter test xs) ≡ 0
  none-of [] h = refl
  none-of (x ∷ xs) h = ap length (cond-false (test x) (x ∷ filter test xs) (filter test xs) h.0) ∙ none-of xs h.1

-- of the first n numbers, counted from 0
pub none-below : (test : ℕ → Bool) (n : ℕ) → length (filter test (range_with_len 0 n)) ≡ 0 → (i : ℕ) → i < n → test i ≡ false
none-below test n h i lt = subst (λ k. test k ≡ false) (omega arith) (none-pass test 0 n h i lt)

-- a test that all of some numbers pass
module _ (test : ℕ → Bool) where
  next-all : (a n : ℕ) → test a ≡ true → ((j : ℕ) → j < n → test (a + 1 + j) ≡ true) → (i : ℕ) → i < suc n → test (a + i) ≡ true
  next-all a n m more zero lt = subst (λ k. test k ≡ true) (omega arith) m
  next-all a n m more (suc j) lt = subst (λ k. test k ≡ true) (omega arith) (more j (omega arith))

  all-pass : (a n : ℕ) → list_all test (range_with_len a n) ≡ true → (i : ℕ) → i < n → test (a + i) ≡ true
  all-pass a zero h i lt = absurd (omega arith)
  all-pass a (suc n) h i lt = let p = and_parts (test a) (list_all test (range_with_len (a + 1) n)) h in next-all a n p.0 (all-pass (a + 1) n p.1) i lt

  pub all-below : (n : ℕ) → list_all test (range_with_len 0 n) ≡ true → (i : ℕ) → i < n → test i ≡ true
  all-below n h i lt = subst (λ k. test k ≡ true) (omega arith) (all-pass 0 n h i lt)

  pub all-passed : (a n : ℕ) → ((i : ℕ) → test i ≡ true) → list_all test (range_with_len a n) ≡ true
  all-passed a zero h = refl
  all-passed a (suc n) h = and_from (test a) (list_all test (range_with_len (a + 1) n)) (h a) (all-passed (a + 1) n h)

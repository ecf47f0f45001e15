-- Bytes that are read as a value are its encoding.
use Rattle.std.proofs.Common.{◌≡◌, ℕ, zero, suc, ◌+◌, ◌^◌, ◌<◌, ◌≤◌, true, false, cond, eqb, ltb, List, [], ◌∷◌, ◌++◌, length, get_or, Some, None, Option, sym, refl, ap, ◌∙◌, subst, arith, w64, Fits, rules}
use mathlib.Core.Bool as Bool
use mir.ValLaws.{of_z-to_z, to_z-Fits}
use Rattle.std.specs.List.{flat_map}
use Rattle.std.proofs.lemmas.List.{places, same_lists, take_all}
use Rattle.std.proofs.lemmas.Bool.{eqb-false, eqb-true, ltb-false, ltb-true, leb-true, and_parts}
use Rattle.lent_bytes.specs.Memory.{Bytes, portion, rest}
use Rattle.lent_bytes.specs.Fields.{u16_in, u64_in, i64_in, bytes2, bytes8, ints8}
use Rattle.lent_bytes.proofs.Frames.{length-portion, length_rest}
use Rattle.lent_bytes.proofs.Endian.{bytes2-le2, bytes8-le8, le2-fits, le8-fits, bytes-portion, bytes_rest, front_rest}
use Rattle.values.specs.declared.kinds.ScalarKind.{ScalarKind}
use Rattle.values.specs.declared.kinds.ScalarKind.TheVariants.{Bool as KBool, I64 as KI64, F64 as KF64, String as KString}
use Rattle.values.specs.declared.kinds.ValueKind.{ValueKind}
use Rattle.values.specs.declared.kinds.ValueKind.TheVariants.{Scalar, Array}
use Rattle.values.specs.Atoms.{Atom, Datum, double, words}
use Rattle.values.specs.Kinds.{kind_of, kind_number}
use Rattle.values.specs.Format.{Element, element, double_sized, words_sized, elements_in, sizes_of, alone, alone_formed, atom_kind, datum_kind, datum_in, datum_of, formed, value_of}
use Rattle.values.specs.Encoding.{flag_bytes, bytes_alone, bytes_inside, encoding, Fitting, FittingInside, AllInside, FittingDatum, Encodes}
use Rattle.values.proofs.Steps.{elements_next, elements_end, element-sized}

whole-portion : (b : List ℕ) (n : ℕ) → length b ≡ n → portion b 0 n ≡ b
unfolding portion
whole-portion b n l = take_all n b (omega arith)

-- two parts, one behind the other, are one
join : (m : List ℕ) (a n k : ℕ) → portion m a n ++ portion m (a + n) k ≡ portion m a (n + k)
unfolding portion
join m a n k = same_lists _ _ (search (rules, places)) (λ i d l. grind (arith, places))

eight_back : (b : List ℕ) → 8 ≤ length b → Bytes b → bytes8 (u64_in b 0) ≡ portion b 0 8
eight_back b l h = bytes8-le8 (portion b 0 8) (length-portion b 0 8 (omega arith)) (bytes-portion b 0 8 h)

fits8 : (b : List ℕ) → Bytes b → Fits w64 (u64_in b 0)
fits8 b h = record { fits = le8-fits (portion b 0 8) (bytes-portion b 0 8 h) }

int_back : (b : List ℕ) → 8 ≤ length b → Bytes b → ints8 (i64_in b 0) ≡ portion b 0 8
int_back b l h = ap bytes8 (of_z-to_z w64 (u64_in b 0) (fits8 b h)) ∙ eight_back b l h

two_back : (b : List ℕ) (a : ℕ) → a + 2 ≤ length b → Bytes b → bytes2 (u16_in b a) ≡ portion b a 2
two_back b a l h = bytes2-le2 (portion b a 2) (length-portion b a 2 l) (bytes-portion b a 2 h)

flag_back : (b : List ℕ) → (length b ≡ 0 → ⊥) → get_or b 0 0 ≤ 1 → flag_bytes (eqb (get_or b 0 0) 1) ≡ portion b 0 1
unfolding portion
flag_back [] n h = absurd (n refl)
flag_back (zero ∷ b) n h = refl
flag_back (suc zero ∷ b) n h = refl
flag_back (suc (suc x) ∷ b) n h = absurd (omega arith)

-- an element that is read is the encoding of its scalar; shut, so that a test on the option is seen in it
Written : ScalarKind → List ℕ → Option Element → Type 0
Written k b None = Unit {0}
Written k b (Some e) = (atom_kind e.atom ≡ k) × FittingInside e.atom × (bytes_inside e.atom ≡ portion b 0 e.size)

none_written : (k : ScalarKind) (b : List ℕ) → Written k b None
unfolding Written
none_written k b = tt

some_written : (k : ScalarKind) (b : List ℕ) (e : Element) → atom_kind e.atom ≡ k → FittingInside e.atom → bytes_inside e.atom ≡ portion b 0 e.size → Written k b (Some e)
unfolding Written
some_written k b e p q r = (p, q, r)

unless : (t : Bool.Bool) (k : ScalarKind) (b : List ℕ) (o : Option Element) → (t ≡ false → Written k b o) → Written k b (cond t None o)
unless true k b o h = none_written k b
unless false k b o h = h refl

ten : (n : ℕ) → 8 + (2 + n) ≡ 10 + n
ten n = omega arith

double-written : (b : List ℕ) (n : ℕ) → Bytes b → n ≡ u16_in b 8 → Written KF64 b (double_sized b n)
double-written b n h e =
    unless (eqb n 0) KF64 b (cond (ltb 400 n) None (cond (ltb (length b) (10 + n)) None (Some record { atom = double (u64_in b 0) (portion b 10 n); size = 10 + n }))) (λ p.
    unless (ltb 400 n) KF64 b (cond (ltb (length b) (10 + n)) None (Some record { atom = double (u64_in b 0) (portion b 10 n); size = 10 + n })) (λ q.
    unless (ltb (length b) (10 + n)) KF64 b (Some record { atom = double (u64_in b 0) (portion b 10 n); size = 10 + n }) (λ r.
    let np : n ≡ 0 → ⊥ = eqb-false n 0 p in
    let few = ltb-false 400 n q in
    let l = ltb-false (length b) (10 + n) r in
    let size : length (portion b 10 n) ≡ n = length-portion b 10 n l in
    let same : bytes8 (u64_in b 0) ++ (bytes2 (length (portion b 10 n)) ++ portion b 10 n) ≡ portion b 0 (10 + n) =
    ap (λ x. bytes8 (u64_in b 0) ++ (bytes2 x ++ portion b 10 n)) (size ∙ e) ∙ ap (λ x. bytes8 (u64_in b 0) ++ (x ++ portion b 10 n)) (two_back b 8 (omega arith) h) ∙ ap (λ x. x ++ (portion b 8 2 ++ portion b 10 n)) (eight_back b (omega arith) h) ∙ ap (λ x. portion b 0 8 ++ x) (join b 8 2 n) ∙ join b 0 8 (2 + n) ∙ ap (portion b 0) (ten n) in
    some_written KF64 b record { atom = double (u64_in b 0) (portion b 10 n); size = 10 + n } refl (le8-fits (portion b 0 8) (bytes-portion b 0 8 h), omega arith, omega arith) same)))

words-written : (b : List ℕ) (n : ℕ) → Bytes b → n ≡ u16_in b 0 → Written KString b (words_sized b n)
words-written b n h e =
    unless (ltb (length b) (2 + n)) KString b (Some record { atom = words (portion b 2 n); size = 2 + n }) (λ r.
    let l = ltb-false (length b) (2 + n) r in
    let size : length (portion b 2 n) ≡ n = length-portion b 2 n l in
    let fits : n < 2 ^ 16 = rw e (le2-fits (portion b 0 2) (bytes-portion b 0 2 h)) in
    let same : bytes2 (length (portion b 2 n)) ++ portion b 2 n ≡ portion b 0 (2 + n) = ap (λ x. bytes2 x ++ portion b 2 n) (size ∙ e) ∙ ap (λ x. x ++ portion b 2 n) (two_back b 0 (omega arith) h) ∙ join b 0 2 n in
    some_written KString b record { atom = words (portion b 2 n); size = 2 + n } refl (omega arith) same)

written : (k : ScalarKind) (b : List ℕ) → Bytes b → Written k b (element k b)
written KBool b h = unless _ KBool b _ (λ p. unless _ KBool b _ (λ q. some_written KBool b _ refl tt (flag_back b (eqb-false (length b) 0 p) (ltb-false 1 (get_or b 0 0) q))))
written KI64 b h = unless _ KI64 b _ (λ p. some_written KI64 b _ refl (to_z-Fits w64 (u64_in b 0) (fits8 b h)) (int_back b (ltb-false (length b) 8 p) h))
written KF64 b h = double-written b (u16_in b 8) h refl
written KString b h = words-written b (u16_in b 0) h refl

element-written : (k : ScalarKind) (b : List ℕ) (e : Element) → Bytes b → element k b ≡ Some e → (atom_kind e.atom ≡ k) × FittingInside e.atom × (bytes_inside e.atom ≡ portion b 0 e.size)
unfolding Written
element-written k b e h g = subst (Written k b) g (written k b h)

-- the elements of an array that they fill, and their encodings
abbrev Whole : ScalarKind → List ℕ → List Atom → Type 0
Whole k b xs = AllInside k xs × (flat_map bytes_inside xs ≡ b)

empty : (b : List ℕ) → length b ≡ 0 → [] ≡ b
empty [] l = refl
empty (x ∷ b) l = absurd (omega arith)

one_more : (k : ScalarKind) (b : List ℕ) (o : Option Element) → element k b ≡ o → Bytes b → sizes_of (elements_in k b) ≡ length b → ((e : Element) → element k b ≡ Some e → Whole k (rest b e.size) (elements_in k (rest b e.size))) → Whole k b (elements_in k b)
one_more k b None g h s later =
    let n = elements_end k b g in
    let z : length b ≡ 0 = sym s ∙ ap sizes_of n in
    rw n (tt, empty b z)
one_more k b (Some e) g h s later =
    let n = elements_next k b e g in
    let w = element-written k b e h g in
    let i = later e g in
    rw n ((w.0, w.1, i.0), ap (λ l. l ++ flat_map bytes_inside (elements_in k (rest b e.size))) w.2 ∙ ap (λ l. portion b 0 e.size ++ l) i.1 ∙ front_rest b e.size)

-- m bounds the bytes
filled : (m : ℕ) (k : ScalarKind) (b : List ℕ) → length b ≤ m → Bytes b → sizes_of (elements_in k b) ≡ length b → Whole k b (elements_in k b)
filled zero k b l h s = one_more k b (element k b) refl h s (λ e g. let z = element-sized k b e g in absurd (omega arith))
filled (suc m) k b l h s =
    one_more k b (element k b) refl h s (λ e g.
    let z = element-sized k b e g in
    let r = length_rest b e.size in
    let n = ap sizes_of (elements_next k b e g) in
    filled m k (rest b e.size) (omega arith) (bytes_rest b e.size h) (omega arith))

-- a value by itself
alone-written : (k : ScalarKind) (b : List ℕ) → Bytes b → alone_formed k b ≡ true → (atom_kind (alone k b) ≡ k) × Fitting (alone k b) × (bytes_alone (alone k b) ≡ b)
alone-written KBool b h f =
    let p = and_parts (eqb (length b) 1) _ f in
    let l = eqb-true (length b) 1 p.0 in
    let z : length b ≡ 0 → ⊥ = λ e. omega arith in
    let x = ltb-true (get_or b 0 0) 2 p.1 in
    (refl, tt, flag_back b z (omega arith) ∙ whole-portion b 1 l)
alone-written KI64 b h f =
    let l = eqb-true (length b) 8 f in
    (refl, to_z-Fits w64 (u64_in b 0) (fits8 b h), int_back b (omega arith) h ∙ whole-portion b 8 l)
alone-written KF64 b h f =
    let p = and_parts (ltb 8 (length b)) _ f in
    let l = ltb-true 8 (length b) p.0 in
    let m = leb-true (length b) 408 p.1 in
    let r = length_rest b 8 in
    (refl, (le8-fits (portion b 0 8) (bytes-portion b 0 8 h), omega arith, omega arith), ap (λ x. x ++ rest b 8) (eight_back b (omega arith) h) ∙ front_rest b 8)
alone-written KString b h f = (refl, tt, refl)

-- the number of a kind that has one
Numbered : ℕ → Option ValueKind → Type 0
Numbered n None = Unit {0}
Numbered n (Some k) = kind_number k ≡ n

choose : (t : Bool.Bool) (n : ℕ) (k : ValueKind) (o : Option ValueKind) → (t ≡ true → kind_number k ≡ n) → Numbered n o → Numbered n (cond t (Some k) o)
unfolding Numbered
choose true n k o h i = h refl
choose false n k o h i = i

no_kind : (n : ℕ) → Numbered n None
unfolding Numbered
no_kind n = tt

numbered : (n : ℕ) → Numbered n (kind_of n)
numbered n =
    choose (eqb n 0) n (Scalar KBool) _ (λ t. sym (eqb-true n 0 t)) (
    choose (eqb n 1) n (Scalar KI64) _ (λ t. sym (eqb-true n 1 t)) (
    choose (eqb n 2) n (Scalar KF64) _ (λ t. sym (eqb-true n 2 t)) (
    choose (eqb n 3) n (Scalar KString) _ (λ t. sym (eqb-true n 3 t)) (
    choose (eqb n 4) n (Array KBool) _ (λ t. sym (eqb-true n 4 t)) (
    choose (eqb n 5) n (Array KI64) _ (λ t. sym (eqb-true n 5 t)) (
    choose (eqb n 6) n (Array KF64) _ (λ t. sym (eqb-true n 6 t)) (
    choose (eqb n 7) n (Array KString) _ (λ t. sym (eqb-true n 7 t)) (no_kind n))))))))

kind-number : (n : ℕ) (k : ValueKind) → kind_of n ≡ Some k → kind_number k ≡ n
unfolding Numbered
kind-number n k e = subst (Numbered n) e (numbered n)

-- the value of a kind is of that kind, and its encoding is the bytes
formed-written : (k : ValueKind) (b : List ℕ) → Bytes b → formed k b ≡ true → (datum_kind (datum_in k b) ≡ k) × FittingDatum (datum_in k b) × (encoding (datum_in k b) ≡ b)
formed-written (Scalar k) b h f = let w = alone-written k b h f in (ap (λ (s : ScalarKind). Scalar s) w.0, w.1, w.2)
formed-written (Array k) b h f = let w = filled (length b) k b (omega arith) h (eqb-true (sizes_of (elements_in k b)) (length b) f) in (refl, w.0, w.1)

accepted : (t : Bool.Bool) (x d : Datum) → cond t (Some x) None ≡ Some d → (t ≡ true) × (x ≡ d)
accepted true x d e = (refl, cc)
accepted false x d e = let z : ◌≡◌ {A = ℕ} 0 1 = cc in absurd (omega arith)

by_kind : (n : ℕ) (b : List ℕ) (d : Datum) (o : Option ValueKind) → kind_of n ≡ o → Bytes b → datum_of o b ≡ Some d → Encodes n b d
by_kind n b d None g h e = let z : ◌≡◌ {A = ℕ} 0 1 = cc in absurd (omega arith)
by_kind n b d (Some k) g h e =
    let a = accepted (formed k b) (datum_in k b) d e in
    let w = formed-written k b h a.0 in
    rw (← a.1) record { kind = ap kind_number w.0 ∙ kind-number n k g; fits = w.1; same = w.2 }

pub written_back : (n : ℕ) (b : List ℕ) (d : Datum) → Bytes b → value_of n b ≡ Some d → Encodes n b d
written_back n b d h e = by_kind n b d (kind_of n) refl h e

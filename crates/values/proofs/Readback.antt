-- The encoding of a value is read as that value.
use Rattle.std.proofs.Common.{◌≡◌, ℕ, ◌+◌, ◌<◌, ◌≤◌, true, false, List, [], ◌∷◌, ◌++◌, length, Some, refl, ap, ◌∙◌, arith, length-append}
use lib.Seq.{take-append_seam, drop-append_seam}
use Rattle.std.specs.List.{flat_map}
use Rattle.std.proofs.lemmas.Bool.{ne_eqb, eq-eqb, le-ltb, lt-ltb, le-leb, and_from}
use Rattle.lent_bytes.specs.Memory.{portion, rest}
use Rattle.lent_bytes.specs.Fields.{u16_in, u64_in, bytes8, ints8}
use Rattle.lent_bytes.proofs.Frames.{le2-bytes2, le8-bytes8, int8-ints8}
use Rattle.values.specs.declared.kinds.ScalarKind.{ScalarKind}
use Rattle.values.specs.declared.kinds.ScalarKind.TheVariants.{Bool as KBool, I64 as KI64, F64 as KF64, String as KString}
use Rattle.values.specs.declared.kinds.ValueKind.{ValueKind}
use Rattle.values.specs.declared.kinds.ValueKind.TheVariants.{Scalar, Array}
use Rattle.values.specs.Atoms.{Atom, Datum, flag, whole, double, words, single, several}
use Rattle.values.specs.Kinds.{kind_of, kind_number}
use Rattle.values.specs.Format.{element, double_sized, words_sized, elements_past, elements_in, size_of, sizes_of, alone, alone_formed, atom_kind, datum_kind, datum_of, value_of}
use Rattle.values.specs.Encoding.{bytes_alone, bytes_inside, encoding, Fitting, FittingInside, AllInside, FittingDatum, Encodes}
use Rattle.values.proofs.Steps.{elements_next}

-- an element whose sizes are right is there
double-there : (b : List ℕ) (n : ℕ) → 0 < n → n ≤ 400 → 10 + n ≤ length b → double_sized b n ≡ Some record { atom = double (u64_in b 0) (portion b 10 n); size = 10 + n }
double-there b n p q r =
    let z : n ≡ 0 → ⊥ = λ e. omega arith in
    rw (ne_eqb n 0 z, le-ltb 400 n q, le-ltb (length b) (10 + n) r)

words-there : (b : List ℕ) (n : ℕ) → 2 + n ≤ length b → words_sized b n ≡ Some record { atom = words (portion b 2 n); size = 2 + n }
words-there b n r = rw (le-ltb (length b) (2 + n) r)

inside-read : (a : Atom) (r : List ℕ) → FittingInside a → element (atom_kind a) (bytes_inside a ++ r) ≡ Some record { atom = a; size = size_of a }
unfolding portion
inside-read (flag true) r h = let z : length (1 ∷ r) ≡ 0 → ⊥ = λ e. omega arith in rw (ne_eqb (length (1 ∷ r)) 0 z)
inside-read (flag false) r h = let z : length (0 ∷ r) ≡ 0 → ⊥ = λ e. omega arith in rw (ne_eqb (length (0 ∷ r)) 0 z)
inside-read (whole z) r h = rw (le-ltb (length (ints8 z ++ r)) 8 (omega arith)) (ap (λ y. Some record { atom = whole y; size = 8 }) (int8-ints8 z h))
inside-read (double p t) r h =
    let b : List ℕ = bytes_inside (double p t) ++ r in
    let n : u16_in b 8 ≡ length t = le2-bytes2 (length t) (omega arith) in
    let l = length-append t r in
    let e = double-there b (length t) h.1 h.2 (omega arith) in
    let q : u64_in b 0 ≡ p = le8-bytes8 p h.0 in
    let s : portion b 10 (length t) ≡ t = take-append_seam t r in
    ap (double_sized b) n ∙ e ∙ ap (λ y. Some record { atom = double y (portion b 10 (length t)); size = 10 + length t }) q ∙ ap (λ y. Some record { atom = double p y; size = 10 + length t }) s
inside-read (words t) r h =
    let b : List ℕ = bytes_inside (words t) ++ r in
    let n : u16_in b 0 ≡ length t = le2-bytes2 (length t) h in
    let l = length-append t r in
    let s : portion b 2 (length t) ≡ t = take-append_seam t r in
    ap (words_sized b) n ∙ words-there b (length t) (omega arith) ∙ ap (λ y. Some record { atom = words y; size = 2 + length t }) s

-- what it takes
inside-size : (a : Atom) → length (bytes_inside a) ≡ size_of a
inside-size (flag true) = refl
inside-size (flag false) = refl
inside-size (whole z) = refl
inside-size (double p t) = omega arith
inside-size (words t) = omega arith

past : (x r : List ℕ) (n : ℕ) → length x ≡ n → rest (x ++ r) n ≡ r
unfolding rest
past x r n e = rw (← e) (drop-append_seam x r)

elements_read : (k : ScalarKind) (xs : List Atom) → AllInside k xs → elements_in k (flat_map bytes_inside xs) ≡ xs
unfolding elements_past elements_in
elements_read k [] h = refl
elements_read k (a ∷ xs) h =
    let b : List ℕ = flat_map bytes_inside xs in
    let here : element k (bytes_inside a ++ b) ≡ Some record { atom = a; size = size_of a } = rw h.0 at (inside-read a b h.1) in
    elements_next k (bytes_inside a ++ b) record { atom = a; size = size_of a } here ∙ ap (λ l. a ∷ l) (ap (elements_in k) (past (bytes_inside a) b (size_of a) (inside-size a)) ∙ elements_read k xs h.2)

sizes_read : (xs : List Atom) → sizes_of xs ≡ length (flat_map bytes_inside xs)
sizes_read [] = refl
sizes_read (a ∷ xs) = let i = sizes_read xs in let s = inside-size a in let l = length-append (bytes_inside a) (flat_map bytes_inside xs) in omega arith

-- a value by itself
alone-read : (a : Atom) → Fitting a → (alone_formed (atom_kind a) (bytes_alone a) ≡ true) × (alone (atom_kind a) (bytes_alone a) ≡ a)
unfolding portion rest
alone-read (flag true) h = (refl, refl)
alone-read (flag false) h = (refl, refl)
alone-read (whole z) h = (refl, ap whole (int8-ints8 z h))
alone-read (double p t) h = (and_from _ _ (lt-ltb 8 (length (bytes8 p ++ t)) (let z = h.1 in omega arith)) (le-leb (length (bytes8 p ++ t)) 408 (let z = h.2 in omega arith)), ap (λ y. double y t) (le8-bytes8 p h.0))
alone-read (words t) h = (refl, refl)

kind_back : (k : ValueKind) → kind_of (kind_number k) ≡ Some k
kind_back (Scalar KBool) = refl
kind_back (Scalar KI64) = refl
kind_back (Scalar KF64) = refl
kind_back (Scalar KString) = refl
kind_back (Array KBool) = refl
kind_back (Array KI64) = refl
kind_back (Array KF64) = refl
kind_back (Array KString) = refl

datum_read : (d : Datum) → FittingDatum d → datum_of (Some (datum_kind d)) (encoding d) ≡ Some d
datum_read (single a) h = let r = alone-read a h in rw (r.0, r.1)
datum_read (several k xs) h =
    let e = elements_read k xs h in
    let s : sizes_of (elements_in k (flat_map bytes_inside xs)) ≡ length (flat_map bytes_inside xs) = ap sizes_of e ∙ sizes_read xs in
    rw (eq-eqb (sizes_of (elements_in k (flat_map bytes_inside xs))) (length (flat_map bytes_inside xs)) s, e)

pub read_back : (n : ℕ) (b : List ℕ) (d : Datum) → Encodes n b d → value_of n b ≡ Some d
read_back n b d e = rw (← e.kind, ← e.same) (ap (λ o. datum_of o (encoding d)) (kind_back (datum_kind d)) ∙ datum_read d e.fits)

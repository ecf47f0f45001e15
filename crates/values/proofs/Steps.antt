-- Going through the elements of an array, one after the other.
use Rattle.std.proofs.Common.{◌≡◌, ℕ, zero, suc, ◌+◌, ◌-◌, ◌<◌, ◌≤◌, true, false, cond, ◌&&◌, eqb, ltb, List, [], ◌∷◌, length, Some, None, Option, sym, refl, ap, ◌∙◌, subst, arith}
use mathlib.Core.Bool as Bool
use Rattle.values.specs.Shown.{readable, all_readable}
use Rattle.lent_bytes.specs.Memory.{rest, portion}
use Rattle.lent_bytes.proofs.Frames.{length-portion, length_rest}
use Rattle.std.proofs.lemmas.Bool.{ltb-false, eqb-false}
use Rattle.lent_bytes.specs.Fields.{u16_in, u64_in}
use Rattle.values.specs.declared.kinds.ScalarKind.{ScalarKind}
use Rattle.values.specs.declared.kinds.ScalarKind.TheVariants.{Bool, I64, F64, String}
use Rattle.values.specs.Atoms.{double, words}
use Rattle.values.specs.Format.{Element, words_sized, element, chained, elements_past, elements_in, size_of, sizes_of}

-- what an element takes lies in its bytes, and is what its scalar takes; shut, so that a test on the option is seen in it
Sized : List ℕ → Option Element → Type 0
Sized b None = Unit {0}
Sized b (Some e) = (0 < e.size) × (e.size ≤ length b) × (size_of e.atom ≡ e.size)

none-sized : (b : List ℕ) → Sized b None
unfolding Sized
none-sized b = tt

some_sized : (b : List ℕ) (e : Element) → 0 < e.size → e.size ≤ length b → size_of e.atom ≡ e.size → Sized b (Some e)
unfolding Sized
some_sized b e p q r = (p, q, r)

unless : (t : Bool.Bool) (b : List ℕ) (o : Option Element) → (t ≡ false → Sized b o) → Sized b (cond t None o)
unless true b o h = none-sized b
unless false b o h = h refl

abbrev last-double : List ℕ → ℕ → Option Element
last-double b n = cond (ltb (length b) (10 + n)) None (Some record { atom = double (u64_in b 0) (portion b 10 n); size = 10 + n })

double-sized : (b : List ℕ) (n : ℕ) → Sized b (last-double b n)
double-sized b n = unless (ltb (length b) (10 + n)) b _ (λ r. let z = ltb-false (length b) (10 + n) r in some_sized b record { atom = double (u64_in b 0) (portion b 10 n); size = 10 + n } (omega arith) z (ap (λ m. 10 + m) (length-portion b 10 n z)))

words-sized : (b : List ℕ) (n : ℕ) → Sized b (words_sized b n)
words-sized b n = unless (ltb (length b) (2 + n)) b _ (λ r. let z = ltb-false (length b) (2 + n) r in some_sized b record { atom = words (portion b 2 n); size = 2 + n } (omega arith) z (ap (λ m. 2 + m) (length-portion b 2 n z)))

sized : (k : ScalarKind) (b : List ℕ) → Sized b (element k b)
sized Bool b = unless _ b _ (λ p. unless _ b _ (λ q. some_sized b _ (omega arith) (let z : length b ≡ 0 → ⊥ = eqb-false (length b) 0 p in omega arith) refl))
sized I64 b = unless _ b _ (λ p. some_sized b _ (omega arith) (ltb-false (length b) 8 p) refl)
sized F64 b =
    unless (eqb (u16_in b 8) 0) b (cond (ltb 400 (u16_in b 8)) None (last-double b (u16_in b 8))) (λ p. unless (ltb 400 (u16_in b 8)) b (last-double b (u16_in b 8)) (λ q. double-sized b (u16_in b 8)))
sized String b = words-sized b (u16_in b 0)

pub element-sized : (k : ScalarKind) (b : List ℕ) (e : Element) → element k b ≡ Some e → (0 < e.size) × (e.size ≤ length b) × (size_of e.atom ≡ e.size)
unfolding Sized
element-sized k b e h = subst (Sized b) h (sized k b)

-- behind n bytes
past-rest : (k : ScalarKind) (n : ℕ) (b : List ℕ) → elements_past k n b ≡ elements_in k (rest b n)
unfolding elements_past elements_in rest
past-rest k zero b = refl
past-rest k (suc n) [] = refl
past-rest k (suc n) (x ∷ b) = past-rest k n b

pub elements_end : (k : ScalarKind) (b : List ℕ) → element k b ≡ None → elements_in k b ≡ []
unfolding elements_past elements_in
elements_end k [] h = refl
elements_end k (x ∷ b) h = ap (λ o. chained o (λ n. elements_past k n b)) h

pub elements_next : (k : ScalarKind) (b : List ℕ) (e : Element) → element k b ≡ Some e → elements_in k b ≡ e.atom ∷ elements_in k (rest b e.size)
unfolding elements_past elements_in
elements_next k [] e h = let s = element-sized k [] e h in absurd (omega arith)
elements_next k (x ∷ b) e h =
    let s = element-sized k (x ∷ b) e h in
    let n : suc (e.size - 1) ≡ e.size = omega arith in
    ap (λ o. chained o (λ n. elements_past k n b)) h ∙ ap (λ l. e.atom ∷ l) (past-rest k (suc (e.size - 1)) (x ∷ b) ∙ ap (λ m. elements_in k (rest (x ∷ b) m)) n)

-- a loop over the elements: what is left falls
pub falls : (k : ScalarKind) (b m : List ℕ) (e : Element) → Some e ≡ element k b → m ≡ rest b e.size → length m < length b
falls k b m e h g = let s = element-sized k b e (sym h) in let l = length_rest b e.size in let x = ap length g in omega arith

pub sizes_next : (k : ScalarKind) (b m : List ℕ) (e : Element) → Some e ≡ element k b → m ≡ rest b e.size → sizes_of (elements_in k b) + length m ≡ sizes_of (elements_in k m) + length b
sizes_next k b m e h g =
    let s = element-sized k b e (sym h) in
    let l = length_rest b e.size in
    let x = ap length g in
    let n = ap sizes_of (elements_next k b e (sym h)) in
    let y = ap (λ c. sizes_of (elements_in k c)) g in
    omega arith

pub sizes_end : (k : ScalarKind) (b : List ℕ) → None ≡ element k b → sizes_of (elements_in k b) ≡ 0
sizes_end k b h = ap sizes_of (elements_end k b (sym h))

pub readable-next : (k : ScalarKind) (b : List ℕ) (e : Element) → Some e ≡ element k b → all_readable (elements_in k b) ≡ readable e.atom && all_readable (elements_in k (rest b e.size))
readable-next k b e h = ap all_readable (elements_next k b e (sym h))

-- Names that are made of texts, where these are not empty.
use Rattle.std.proofs.Common.{◌≡◌, ℕ, ◌<◌, false, eqb, List, [], ◌∷◌, length, Some, None, Option, sym, refl, ap, ◌∙◌, arith}
use Rattle.std.specs.Option.{MatchOption}
use Rattle.std.proofs.lemmas.Bool.{both_ways, eq-eqb}
use Rattle.lent_bytes.specs.Memory.{portion, padded}
use Rattle.readers.proofs.Fronts.{portion-padded}
use Rattle.readers.proofs.Entries.{or_none}
use Rattle.readers.specs.Reading.{size_of}
use Rattle.readers.specs.Texts.{or_else, or_absent, if_given}
use Rattle.derived.specs.OperationName.{lowered, if_both}
use Rattle.derived.specs.ResourceName.{only_if}

pub given : (t name : List ℕ) → 0 < length t → if_given t name ≡ Some name
given [] name h = absurd (omega arith)
given (x ∷ t) name h = refl

-- what was composed of a text in lower case that is not empty
pub offered : (name : List ℕ → List ℕ) (t u x : List ℕ) → u ≡ lowered t → false ≡ eqb (length u) 0 → x ≡ name u → Some x ≡ if_given t (name (lowered t))
offered name [] u x e h f = let z : length u ≡ 0 = ap length e in absurd (both_ways (eqb (length u) 0) (sym h) (eq-eqb (length u) 0 z))
offered name (a ∷ t) u x e h f = ap Some (f ∙ ap name e)

-- and of two
pub offered-both : (name : List ℕ → List ℕ → List ℕ) (t u s v x : List ℕ) → u ≡ lowered t → false ≡ eqb (length u) 0 → v ≡ lowered s → false ≡ eqb (length v) 0 → x ≡ name u v → Some x ≡ if_both t s (name (lowered t) (lowered s))
offered-both name [] u s v x e h d i f = let z : length u ≡ 0 = ap length e in absurd (both_ways (eqb (length u) 0) (sym h) (eq-eqb (length u) 0 z))
offered-both name (a ∷ t) u s v x e h d i f = offered (name (lowered (a ∷ t))) s v x d i (f ∙ ap (λ n. name n v) e)

-- where no name is offered what comes behind it is taken
pub passed : (o : Option (List ℕ)) (u x : List ℕ) → None ≡ o → x ≡ u → x ≡ or_absent o u
passed o u x e f = f ∙ or_none o u e

-- what holds where no name is offered, and where one is
pub none_offered : (o : Option (List ℕ)) (P : Type 0) (Q : List ℕ → Type 0) → None ≡ o → P → MatchOption o P Q
none_offered o P Q e p = rw (← e) p

pub one_offered : (o : Option (List ℕ)) (x : List ℕ) (P : Type 0) → Some x ≡ o → MatchOption o P (λ t. x ≡ t)
one_offered o x P e = rw (← e) refl

-- a text that is offered as it is, where another is not empty
pub offered_if : (s v t u x : List ℕ) → v ≡ s → false ≡ eqb (length v) 0 → u ≡ t → false ≡ eqb (length u) 0 → x ≡ u → Some x ≡ only_if s (if_given t t)
offered_if [] v t u x d i e h f = let z : length v ≡ 0 = ap length d in absurd (both_ways (eqb (length v) 0) (sym i) (eq-eqb (length v) 0 z))
offered_if (a ∷ s) v [] u x d i e h f = let z : length u ≡ 0 = ap length e in absurd (both_ways (eqb (length u) 0) (sym h) (eq-eqb (length u) 0 z))
offered_if (a ∷ s) v (b ∷ t) u x d i e h f = ap Some (f ∙ e)

-- a text that was read, and is offered as it is
pub offered-text : (t buf u x : List ℕ) (n : ℕ) → n ≡ length t → buf ≡ padded 4096 t → (n ≡ 0 → ⊥) → u ≡ portion buf 0 n → x ≡ u → Some x ≡ if_given t t
offered-text [] buf u x n en eb hn eu f = absurd (hn en)
offered-text (a ∷ t) buf u x n en eb hn eu f = ap Some (f ∙ (eu ∙ rw (eb, en) (portion-padded 4096 (a ∷ t))))

-- a text that was read and is not empty
pub given_front : (t u buf x : List ℕ) (n : ℕ) → Some n ≡ size_of (if_given t t) → (0 < length t → buf ≡ padded 4096 t) → x ≡ portion buf 0 n → x ≡ or_else t u
given_front [] u buf x n e h f = let z : ◌≡◌ {A = ℕ} 0 1 = cc in absurd (omega arith)
given_front (a ∷ t) u buf x n e h f =
    let en : n ≡ length (a ∷ t) = cc in
    let eb : buf ≡ padded 4096 (a ∷ t) = h (omega arith) in
    f ∙ rw (eb, en) (portion-padded 4096 (a ∷ t))

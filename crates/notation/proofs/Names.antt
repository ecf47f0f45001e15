-- The kind with a name: found among the kinds, or at its name's place in their table.
use Rattle.std.proofs.Common.{◌≡◌, ℕ, Bool, true, false, cond, List, [], ◌∷◌, Some, None, refl}
use Rattle.std.specs.List.{find}
use Rattle.std.specs.Str.{bytes_eq}
use Rattle.values.specs.KindNames.{name_of_kind}
use Rattle.values.specs.Kinds.{kind_number, kind_of}
use Rattle.values.specs.declared.kinds.ScalarKind.TheVariants.{Bool as KBool, I64 as KI64, F64 as KF64, String as KString}
use Rattle.values.specs.declared.kinds.ValueKind.{ValueKind}
use Rattle.values.specs.declared.kinds.ValueKind.TheVariants.{Scalar, Array}
use Rattle.notation.specs.Kinds.{kind_at, kind_in}

-- in the order of their numbers
abbrev pub kinds : List ValueKind
kinds =
    Scalar KBool ∷ Scalar KI64 ∷ Scalar KF64 ∷ Scalar KString ∷ Array KBool ∷ Array KI64 ∷ Array KF64 ∷ Array KString ∷ []

-- a kind is read back from its number
pub kind_back : (k : ValueKind) → kind_of (kind_number k) ≡ Some k
kind_back (Scalar KBool) = refl
kind_back (Scalar KI64) = refl
kind_back (Scalar KF64) = refl
kind_back (Scalar KString) = refl
kind_back (Array KBool) = refl
kind_back (Array KI64) = refl
kind_back (Array KF64) = refl
kind_back (Array KString) = refl

by_tests : (a b c d e f g h : Bool) → cond a (Some (Scalar KBool)) (cond b (Some (Scalar KI64)) (cond c (Some (Scalar KF64)) (cond d (Some (Scalar KString)) (cond e (Some (Array KBool)) (cond f (Some (Array KI64)) (cond g (Some (Array KF64)) (cond h (Some (Array KString)) None))))))) ≡ kind_at (cond a (Some 0) (cond b (Some 1) (cond c (Some 2) (cond d (Some 3) (cond e (Some 4) (cond f (Some 5) (cond g (Some 6) (cond h (Some 7) None))))))))
by_tests true b c d e f g h = refl
by_tests false true c d e f g h = refl
by_tests false false true d e f g h = refl
by_tests false false false true e f g h = refl
by_tests false false false false true f g h = refl
by_tests false false false false false true g h = refl
by_tests false false false false false false true h = refl
by_tests false false false false false false false true = refl
by_tests false false false false false false false false = refl

pub found : (name : List ℕ) → find (λ k. bytes_eq (name_of_kind k) name) kinds ≡ kind_in name
found name =
    let is : ValueKind → Bool = λ k. bytes_eq (name_of_kind k) name in
    by_tests (is (Scalar KBool)) (is (Scalar KI64)) (is (Scalar KF64)) (is (Scalar KString)) (is (Array KBool)) (is (Array KI64)) (is (Array KF64)) (is (Array KString))

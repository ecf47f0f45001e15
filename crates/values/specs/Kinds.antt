-- The eight kinds of value and their numbers.
use Rattle.std.specs.Prelude.{◌≡◌, ℕ, ◌+◌, cond, if◌then◌else◌, Some, None, Option, Result, IfErr, nat_lt, ◌==◌}
use Rattle.std.specs.Option.{option_map}
use Rattle.std.specs.Result.{result_ok}
use Rattle.values.specs.declared.kinds.ScalarKind.{ScalarKind}
use Rattle.values.specs.declared.kinds.ScalarKind.TheVariants.{Bool, I64, F64, String}
use Rattle.values.specs.declared.kinds.ValueKind.{ValueKind}
use Rattle.values.specs.declared.kinds.ValueKind.TheVariants.{Scalar, Array}
use Rattle.values.specs.declared.kinds.UnknownKind.{UnknownKind}

abbrev pub scalar_number : ScalarKind → ℕ
scalar_number Bool = 0
scalar_number I64 = 1
scalar_number F64 = 2
scalar_number String = 3

-- an array's number is four more than that of its elements
abbrev pub kind_number : ValueKind → ℕ
kind_number (Scalar k) = scalar_number k
kind_number (Array k) = 4 + scalar_number k

-- the kind with the number n, if there is one
abbrev pub kind_of : ℕ → Option ValueKind
kind_of n =
    cond (n == 0) (Some (Scalar Bool)) (cond (n == 1) (Some (Scalar I64)) (cond (n == 2) (Some (Scalar F64)) (cond (n == 3) (Some (Scalar String)) (cond (n == 4) (Some (Array Bool)) (cond (n == 5) (Some (Array I64)) (cond (n == 6) (Some (Array F64)) (cond (n == 7) (Some (Array String)) None)))))))

-- a number is turned into the kind that it names, which has that number; one that names none is handed back
pub record NamesKind (n : ℕ) (r : Result ValueKind UnknownKind) : Type 0 where
  pub kind : result_ok r ≡ kind_of n
  pub back : option_map kind_number (result_ok r) ≡ (if nat_lt n 8 then Some n else None)
  pub unknown : IfErr r (λ e. e.0 ≡ n)

-- Readings that say the same, older names put as later.
use Rattle.std.specs.Prelude.{◌≡◌, ℕ, ◌<◌, Bool, true, cond, ◌||◌, List, [], ◌∷◌, is_some, Some, None, Option, ◌==◌, nat_lt}
use Rattle.readers.specs.Reading.{Reading}
use Rattle.readers.specs.Places.{http_method, http_request_method, http_status_code, http_response_status_code, db_system, db_system_name, db_statement, db_query_text, messaging_operation, messaging_operation_type, messaging_destination, messaging_destination_name, deployment_environment, deployment_environment_name}
use Rattle.derived.specs.Fields.{fields}

-- two names of one thing
pub record Names : Type 0 where
  pub older : ℕ
  pub later : ℕ

abbrev pub renamed : ℕ → ℕ → Names
renamed o l = record { older = o; later = l }

abbrev pub renamings : List Names
renamings =
    renamed http_method http_request_method ∷
    renamed http_status_code http_response_status_code ∷
    renamed db_system db_system_name ∷
    renamed db_statement db_query_text ∷
    renamed messaging_operation messaging_operation_type ∷
    renamed messaging_destination messaging_destination_name ∷
    renamed deployment_environment deployment_environment_name ∷
    []

abbrev pub or_other : {X : Type 0} → Option X → Option X → Option X
or_other None b = b
or_other (Some x) b = Some x

-- what is said under the key k, older names put as later
abbrev pub put_later : {X : Type 0} → List Names → (ℕ → Option X) → ℕ → Option X
put_later [] said k = said k
put_later (p ∷ ps) said k = cond (k == p.older) None (cond (k == p.later) (or_other (said p.later) (said p.older)) (put_later ps said k))

-- of the 43 known keys
abbrev pub in_later_names : {X : Type 0} → (ℕ → Option X) → ℕ → Option X
in_later_names said k = cond (nat_lt k 43) (put_later renamings said k) None

-- equal readings: the same name and kind and, for each known key, the same on the span, text and number, and on the resource
pub record Alike (a b : Reading) : Type 0 where
  pub name : a.name ≡ b.name
  pub kind : a.kind ≡ b.kind
  pub span : (k : ℕ) → k < 43 → in_later_names a.span k ≡ in_later_names b.span k
  pub resource : (k : ℕ) → k < 43 → in_later_names a.resource k ≡ in_later_names b.resource k

-- a pair is used doubly where both names occur, each on the span or on the resource
abbrev pub occurs : Reading → ℕ → Bool
occurs r k = is_some (r.span k) || is_some (r.resource k)

abbrev pub UsedDoubly : Reading → Names → Type 0
UsedDoubly r p = (occurs r p.older ≡ true) × (occurs r p.later ≡ true)

abbrev pub NoneDoubly : Reading → List Names → Type 0
NoneDoubly r [] = Unit {0}
NoneDoubly r (p ∷ ps) = (UsedDoubly r p → ⊥) × NoneDoubly r ps

-- then the six fields are equal
abbrev pub DeriveAlike : Reading → Reading → Type 0
DeriveAlike a b = Alike a b → NoneDoubly a renamings → NoneDoubly b renamings → fields a ≡ fields b

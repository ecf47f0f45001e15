-- What is noted of a row, by its list.
use Rattle.std.proofs.Common.{◌≡◌, ℕ, Bool, true, false, cond, eqb, List, Some, None, Option, sym, ap, ◌∙◌, arith}
use Rattle.std.specs.Option.{option_map}
use Rattle.std.proofs.lemmas.Bool.{eq-eqb, cond-true}
use Rattle.names.specs.Keys.{key_at, known}
use Rattle.names.specs.Places.{noted}
use Rattle.blocks.specs.Facts.{RowFact}
use Rattle.span_args.specs.ReadingOf.{list_key}

pub of_list_lem : (l i : ℕ) (f : RowFact) (before after : List (Option ℕ)) → f.list ≡ l → after ≡ noted (option_map key_at (known f.key)) i before → after ≡ noted (option_map key_at (known (list_key l f))) i before
of_list_lem l i f before after e h =
    let k : list_key l f ≡ f.key = cond-true (eqb f.list l) _ _ (eq-eqb f.list l e) in
    h ∙ ap (λ x. noted (option_map key_at (known x)) i before) (sym k)

-- a number that a list was read from
pub named : (n x : ℕ) (b : Bool) → Some x ≡ cond b (Some n) None → n ≡ x
named n x true e = cc
named n x false e = let z : ◌≡◌ {A = ℕ} 0 1 = cc in absurd (omega arith)

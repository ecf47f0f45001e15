-- Ok is final.
use Rattle.std.proofs.Common.{◌≡◌, Bool, true, false, [], ◌∷◌, refl, ap, ◌∙◌}
use Rattle.blocks.specs.declared.span_kind.StatusCode.{StatusCode}
use Rattle.blocks.specs.declared.span_kind.StatusCode.TheVariants.{Ok}
use Rattle.drafts.specs.Calls.{Call, Set, Event, Link, Status, Rename}
use Rattle.drafts.specs.Refused.{accepted}
use Rattle.drafts.specs.Held.{Outcome, unless_ok, stated, passed}
use Rattle.draft_law.specs.Law.{OkIsFinal}

stays : (x : StatusCode) (o p : Outcome) → x ≡ Ok → unless_ok x o p ≡ o
stays x o p e = ap (λ y. unless_ok y o p) e

pub stated-ok : (b : Bool) (c : Call) (o : Outcome) → o.code ≡ Ok → stated b c o ≡ o
stated-ok true (Set l k n v) o e = refl
stated-ok true (Event t z) o e = refl
stated-ok true (Link t v) o e = refl
stated-ok true (Status s d) o e = stays o.code o _ e
stated-ok true (Rename t) o e = refl
stated-ok false c o e = refl

pub ok_is_final_lem : OkIsFinal
ok_is_final_lem o e [] ns = refl
ok_is_final_lem o e (c ∷ cs) [] = refl
ok_is_final_lem o e (c ∷ cs) (a ∷ ns) = ap (λ x. passed stated x cs ns) (stated-ok (accepted a) c o e) ∙ ok_is_final_lem o e cs ns

-- Error, then Ok, then Error: Ok is never refused, and then final.
use Rattle.std.proofs.Common.{◌≡◌, ℕ, Bool, true, false, cond, List, [], ◌∷◌, None, Option, refl, ap, ◌∙◌}
use Rattle.blocks.specs.Facts.{Facts}
use Rattle.blocks.specs.declared.span_kind.StatusCode.TheVariants.{Ok}
use Rattle.drafts.specs.declared.refusal.Refusal.{Refusal}
use Rattle.drafts.specs.Calls.{Status}
use Rattle.drafts.specs.Refused.{accepted}
use Rattle.drafts.specs.Held.{Outcome, stated, unsaid, passed}
use Rattle.drafts.specs.Memory.{status_stays, applied, answered, answer, after, answers}
use Rattle.drafts.specs.Writes.{started}
use Rattle.draft_law.specs.Law.{HoldsWhatWasSaid, OkIsFinal, ErrorOkErrorIsOk}

-- Ok is never refused, since it has no text
never : (t : Bool) → cond {A = Option Refusal} t None None ≡ None
never true = refl
never false = refl

ok-accepted : (m d : List ℕ) → accepted (answer m (Status 1 d)) ≡ true
unfolding answer
ok-accepted m d = ap (λ o. accepted (answered o (applied m (Status 1 d)))) (never (status_stays m 1))

-- after Error, refused or not, Ok is held with no description
abbrev ok : Outcome
ok = record { code = Ok; description = [] }

by_error : (b : Bool) (a d : List ℕ) → stated true (Status 1 d) (stated b (Status 2 a) unsaid) ≡ ok
by_error true a d = refl
by_error false a d = refl

pub error_ok_error : HoldsWhatWasSaid → OkIsFinal → ErrorOkErrorIsOk
error_ok_error law final n o sz begun a b c cz end fits =
    let s = started n o in
    let cs = Status 2 a ∷ Status 1 b ∷ Status 2 c ∷ [] in
    let m = after s (Status 2 a) in
    let ns = answers (after m (Status 1 b)) (Status 2 c ∷ []) in
    let x = accepted (answer s (Status 2 a)) in
    let e : passed stated unsaid cs (answers s cs) ≡ ok =
    ap (λ y. passed stated (stated y (Status 1 b) (stated x (Status 2 a) unsaid)) (Status 2 c ∷ []) ns) (ok-accepted m b)
    ∙ ap (λ y. passed stated y (Status 2 c ∷ []) ns) (by_error x a b)
    ∙ final ok refl (Status 2 c ∷ []) ns in
    let w = (law n o sz begun cs cz end fits).holds in
    (ap (λ (f : Facts). f.status) w ∙ ap (λ (y : Outcome). y.code) e, ap (λ (f : Facts). f.description) w ∙ ap (λ (y : Outcome). y.description) e)

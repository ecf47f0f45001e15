-- The law of drafts.
use Rattle.std.specs.Prelude.{◌≡◌, ℕ, List, [], ◌∷◌, ℤ, None, FitsSigned}
use Rattle.std.specs.Int.{w64}
use Rattle.blocks.specs.Facts.{facts}
use Rattle.blocks.specs.declared.span_kind.StatusCode.TheVariants.{Ok}
use Rattle.blocks.specs.Faults.{block_fault}
use Rattle.blocks.specs.Lawful.{Lawful}
use Rattle.drafts.specs.Calls.{Opening, Call, Status, SizedOpening, SizedCalls}
use Rattle.drafts.specs.Refused.{Answer}
use Rattle.drafts.specs.Held.{Outcome, passed, stated, held}
use Rattle.drafts.specs.Writes.{started, ended}
use Rattle.drafts.specs.Memory.{start_fault, past, answers}

-- what a draft has become when it has ended
abbrev pub built : ℕ → Opening → List Call → ℤ → List ℕ
built n o cs end = ended (past (started n o) cs) end

-- for every start that is not refused, every list of calls and every end time: the ended memory holds the facts that follow from
-- what was said and which calls were refused, it is a lawful block, and open finds no fault in it
pub record WellBuilt (n : ℕ) (o : Opening) (cs : List Call) (end : ℤ) : Type 0 where
  pub holds : facts (built n o cs end) ≡ held o cs (answers (started n o) cs) end
  pub lawful : Lawful (built n o cs end)
  pub opens : block_fault (built n o cs end) ≡ None

abbrev pub HoldsWhatWasSaid : Type 0
HoldsWhatWasSaid =
    (n : ℕ) (o : Opening) → SizedOpening o → start_fault n o ≡ None → (cs : List Call) → SizedCalls cs → (end : ℤ) → FitsSigned w64 end
    → WellBuilt n o cs end

-- once Ok is held, no call changes status or description, whatever it is answered
abbrev pub OkIsFinal : Type 0
OkIsFinal = (o : Outcome) → o.code ≡ Ok → (cs : List Call) (ns : List Answer) → passed stated o cs ns ≡ o

-- Error, then Ok, then Error: the ended span is Ok and has no description
abbrev pub ErrorOkErrorIsOk : Type 0
ErrorOkErrorIsOk =
    (n : ℕ) (o : Opening) → SizedOpening o → start_fault n o ≡ None → (a b c : List ℕ) → SizedCalls (Status 2 a ∷ Status 1 b ∷ Status 2 c ∷ []) → (end : ℤ) → FitsSigned w64 end
    → ((facts (built n o (Status 2 a ∷ Status 1 b ∷ Status 2 c ∷ []) end)).status ≡ Ok) × ((facts (built n o (Status 2 a ∷ Status 1 b ∷ Status 2 c ∷ []) end)).description ≡ [])

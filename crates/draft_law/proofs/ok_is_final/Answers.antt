use Rattle.draft_law.proofs.Closed.{holds_what_was_said_lem}
use Rattle.draft_law.proofs.Final.{ok_is_final_lem}
use Rattle.draft_law.proofs.ErrorOkError.{error_ok_error}
use Rattle.draft_law.proofs.ok_is_final.Goals as goal

pub returns : goal.returns
returns c = record { law = ok_is_final_lem; example = error_ok_error holds_what_was_said_lem ok_is_final_lem }

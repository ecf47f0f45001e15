use Rattle.std.proofs.Common.{sym, ◌∙◌, rules}
use Rattle.drafts.proofs.Answered.{refused-status, becomes_error, becomes_ok, stays-ok, stays_unset}
use Rattle.drafts.proofs.draft.Draft.status.Goals as goal

pub returns-then-code-gt2 : goal.returns-then-code-gt2
returns-then-code-gt2 c =
    let p = refused-status c.args.self.now.mem.now c.args.code c.args.description.now c.if-code-gt2.true in
    record { answer = search rules; after = search rules; named = search rules }

pub returns-in-Ok-default : goal.returns-in-Ok-default
returns-in-Ok-default c =
    let p = stays-ok c.args.self.now.mem.now c.args.code c.args.description.now c.if-code-gt2.false (sym c.in-Ok-default.ensures) in
    record { answer = search rules; after = search rules; named = search rules }

pub returns-in_default-Unset : goal.returns-in_default-Unset
returns-in_default-Unset c =
    let p = stays_unset c.args.self.now.mem.now c.args.code c.args.description.now c.if-code-gt2.false (sym c.in_default-Unset.ensures) in
    record { answer = search rules; after = search rules; named = search rules }

pub returns-in_default-Ok : goal.returns-in_default-Ok
returns-in_default-Ok c =
    let e = sym c.in_default-Ok.ensures in
    let p = becomes_ok c.args.self.now.mem.now c.args.code c.args.description.now (λ h. c.in_default-Ok.not-Ok-0 (c.held_status.ensures ∙ h)) e in
    record { answer = search rules; after = search rules; named = search rules }

pub returns-in_default-Error : goal.returns-in_default-Error
returns-in_default-Error c =
    let e = sym c.in_default-Error.ensures in
    let p = becomes_error c.args.self.now.mem.now c.args.code c.args.description.now (λ h. c.in_default-Error.not-Ok-0 (c.held_status.ensures ∙ h)) e in
    record { answer = search rules; after = search rules; named = search rules }

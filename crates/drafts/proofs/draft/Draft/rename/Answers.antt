use Rattle.std.proofs.Common.{◌≡◌, Some, None, refl, rules}
use Rattle.drafts.specs.Calls.{Rename}
use Rattle.drafts.specs.Memory.{refusal}
use Rattle.drafts.proofs.Answered.{refused, changed}
use Rattle.drafts.proofs.draft.Draft.rename.Goals as goal

pub returns-in_err-check_head : goal.returns-in_err-check_head
returns-in_err-check_head c =
    let m = c.args.self.now.mem.now in
    let call = Rename c.args.title.now in
    let e : Some c.in_err-check_head.field-0.0 ≡ refusal m call = search rules in
    let p = refused m call _ e in
    record { answer = search rules; after = search rules; named = search rules }

pub returns : goal.returns
returns c =
    let m = c.args.self.now.mem.now in
    let call = Rename c.args.title.now in
    let e : None ≡ refusal m call = search rules in
    let p = changed m call e refl in
    record { answer = search rules; after = search rules; named = search rules }

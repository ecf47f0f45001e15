use Rattle.std.proofs.Common.{◌≡◌, Some, None, refl, rules}
use Rattle.drafts.specs.Calls.{Link}
use Rattle.drafts.specs.Memory.{refusal}
use Rattle.drafts.proofs.Answered.{refused, changed}
use Rattle.drafts.proofs.draft.Draft.link.Goals as goal

pub returns-in_err-counting : goal.returns-in_err-counting
returns-in_err-counting c =
    let m = c.args.self.now.mem.now in
    let call = Link c.args.trace_state.now c.args.value.now in
    let e : Some c.in_err-counting.field-0.0 ≡ refusal m call = search rules in
    let p = refused m call _ e in
    record { answer = search rules; after = search rules; named = search rules }

pub returns : goal.returns
returns c =
    let m = c.args.self.now.mem.now in
    let call = Link c.args.trace_state.now c.args.value.now in
    let e : None ≡ refusal m call = search rules in
    let p = changed m call e refl in
    record { answer = search rules; after = search rules; named = search rules }

use Rattle.std.proofs.Common.{◌≡◌, Some, None, rules}
use Rattle.drafts.specs.Code.{set_chain}
use Rattle.drafts.proofs.Answered.{refused-set, changed-set}
use Rattle.drafts.proofs.draft.Draft.set.Goals as goal

pub returns-in_err-place : goal.returns-in_err-place
returns-in_err-place c =
    let m = c.args.self.now.mem.now in
    let e : Some c.in_err-place.field-0.0 ≡ set_chain m c.args.list c.args.key.now c.args.kind c.args.value.now = search rules in
    let p = refused-set m c.args.list c.args.key.now c.args.kind c.args.value.now c.in_err-place.field-0.0 e in
    record { answer = search rules; after = search rules; named = search rules }

pub returns : goal.returns
returns c =
    let m = c.args.self.now.mem.now in
    let e : None ≡ set_chain m c.args.list c.args.key.now c.args.kind c.args.value.now = search rules in
    let p = changed-set m c.args.list c.args.key.now c.args.kind c.args.value.now e in
    record { answer = search rules; after = search rules; named = search rules }

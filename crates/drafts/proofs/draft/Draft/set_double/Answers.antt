use Rattle.std.proofs.Common.{◌<◌, ◌≤◌, length, refl, arith, rules}
use Rattle.blocks.specs.Lists.{list_number}
use Rattle.drafts.proofs.Unformed.{long_alike, double_is}
use Rattle.drafts.proofs.draft.Draft.set_double.Goals as goal

pub returns-then-text-gt-DOUBLE_TEXT : goal.returns-then-text-gt-DOUBLE_TEXT
returns-then-text-gt-DOUBLE_TEXT c =
    let h : 400 < length c.args.double.text.now = omega arith in
    let a = long_alike c.args.self.now.mem.now (list_number c.args.list) c.args.key.now c.args.double.pattern c.args.double.text.now h in
    record { answer = search rules; after = search rules; named = search rules }

pub returns : goal.returns
returns c =
    let h : length c.args.double.text.now ≤ 400 = omega arith in
    let d = double_is c.args.double.pattern c.args.double.text.now _ _ _ h refl c.put_double.ensures c.part.ensures in
    record { answer = search rules; after = search rules; named = search rules }

use Rattle.std.proofs.Common.{◌≡◌, ◌∙◌, codes, refl, ap, arith}
use Rattle.derived.specs.DatabaseTypes.{database_type, database_types}
use Rattle.readers.proofs.Entries.{or_default, default_within}
use Rattle.derived.proofs.db_types.check_db_type.Goals as goal

pub returns : goal.returns
returns c =
    let e : c.unwrap_or.result.now ≡ database_type c.args.db_type.now = ap (λ x. x.now) c.unwrap_or.ensures ∙ or_default c.find.result _ _ c.find.ensures in
    let l = default_within 4096 c.args.db_type.now database_types (codes "db") refl (omega arith) in
    record { text = e; short = rw e l }

use Rattle.std.proofs.Common.{List, ℕ, Bor, bytes_eq, rules, tests}
use Rattle.std.proofs.lemmas.Iterator.{YieldsList-from_slice}
use Rattle.std.proofs.lemmas.Iterator.Search.{any_from_yields_List}
use Rattle.conversion_sides.proofs.left_out.is_among.Goals as goal

pub returns : goal.returns
returns c =
    any_from_yields_List (λ (t : Bor (List ℕ)). bytes_eq c.args.key.now t.now) _ _ c.any.result c.any.ensures.ran (YieldsList-from_slice c.args.names.now (cc)) (λ x b q h. search (rules, tests))

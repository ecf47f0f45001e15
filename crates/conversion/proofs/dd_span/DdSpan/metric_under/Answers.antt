use Rattle.std.proofs.Common.{◌≡◌, ℕ, List, [], ◌∷◌, map, Some, true, false, cond, refl, rules}
use Rattle.std.specs.List.{find}
use Rattle.std.specs.Option.{option_map}
use Rattle.std.specs.Str.{bytes_eq}
use Rattle.conversion.specs.declared.pieces.Metric.{Metric}
use Rattle.conversion.specs.Spans.{bytes_of, found}
use Rattle.conversion.specs.Pieces.{piece_text, metric_pair}
use Rattle.conversion.proofs.dd_span.DdSpan.metric_under.Goals as goal

found-numbers : (b a k : List ℕ) (rows : List Metric) → found k (map (metric_pair b a) rows) ≡ option_map (λ (r : Metric). r.pattern) (find (λ r. bytes_eq (bytes_of (piece_text b a r.key)) k) rows)
unfolding found
found-numbers b a k [] = refl
found-numbers b a k (r ∷ rs) =
    elim (bytes_eq (bytes_of (piece_text b a r.key)) k) as (λ t. cond t (Some r.pattern) (found k (map (metric_pair b a) rs)) ≡ option_map (λ (q : Metric). q.pattern) (cond t (Some r) (find (λ q. bytes_eq (bytes_of (piece_text b a q.key)) k) rs))) [
      | true ↦ refl
      | false ↦ found-numbers b a k rs
    ]

pub returns-in-Some : goal.returns-in-Some
returns-in-Some c = search (rules, found-numbers)

pub returns-in-None : goal.returns-in-None
returns-in-None c = search (rules, found-numbers)

-- Two spans that differ and meet what the law asks: their two attributes land apart.
use Rattle.std.proofs.Common.{◌≡◌, ℕ, List, [], true, false, bytes_eq, sym, refl, ap, ◌∙◌, arith}
use Rattle.std.proofs.lemmas.Bool.{both_ways, false≢true}
use Rattle.std.proofs.lemmas.List.Sorted.{IsPermutation-refl, IsPermutation-swap}
use Rattle.lent_bytes.specs.Memory.{portion, rest}
use Rattle.blocks.specs.Projections.{of_list, owning}
use Rattle.conversion_law.specs.SameFacts.{later_name, later_rows}
use Rattle.conversion_law.specs.Landing.{on_meta}
use Rattle.conversion_law.specs.Examples.{older, later, PremisesMet}
use Rattle.conversion_law.proofs.Tables.{bytes-refl}
use Rattle.conversion_law.proofs.Hits.{hits_meta}

differ : (a b : List ℕ) → bytes_eq b a ≡ false → on_meta a ≡ on_meta b → ⊥
differ a b n e = both_ways (bytes_eq b a) n (sym (ap (hits_meta a) e) ∙ bytes-refl a)

pub premises_met : PremisesMet
unfolding later_name of_list owning portion rest
premises_met =
    record {
      same =
          record {
            others = record { trace_high = refl; trace_low = refl; span_id = refl; parent_id = refl; start = refl; finish = refl; kind = refl; status = refl; name = refl; trace_state = refl; scope_name = refl; scope_version = refl; description = refl; of_scope = refl; events = refl; links = refl };
            of_span = IsPermutation-swap (later_rows 0 older) (later_rows 0 later) 0 1 (omega arith) (omega arith) refl;
            of_resource = IsPermutation-refl [];
          };
      left_once = (λ u. never u.1, (λ u. never u.0, (λ u. never u.0, (λ u. never u.0, (λ u. never u.0, (λ u. never u.0, (λ u. never u.0, tt)))))));
      right_once = (λ u. never u.0, (λ u. never u.0, (λ u. never u.0, (λ u. never u.0, (λ u. never u.0, (λ u. never u.0, (λ u. never u.0, tt)))))));
      left_apart = record { of_span = ((differ _ _ refl, tt), (tt, tt)); of_resource = tt; of_scope = tt };
      right_apart = record { of_span = ((differ _ _ refl, tt), (tt, tt)); of_resource = tt; of_scope = tt };
    }
  where
    never : false ≡ true → ⊥
    never = false≢true

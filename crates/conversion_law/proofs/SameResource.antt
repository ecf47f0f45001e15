-- The later edition leaves the resource as it is: of the name of a database the resource asks only whether it is empty.
use Rattle.std.proofs.Common.{◌≡◌, ℕ, true, false, Bool, not, ◌&&◌, List, [], ◌∷◌, Some, None, Option, refl, ap, ap₂}
use Rattle.std.specs.Option.{option_map}
use Rattle.std.specs.Str.{bytes_eq}
use Rattle.std.proofs.lemmas.Bool.{and_parts, both_ways, cond_both, not-true}
use Rattle.blocks.specs.declared.span_kind.SpanKind.{SpanKind}
use Rattle.blocks.specs.declared.span_kind.SpanKind.TheVariants.{Internal, Server, Client, Producer, Consumer}
use Rattle.readers.specs.Reading.{Known, Reading, text_of, bytes_of}
use Rattle.readers.specs.Tables.{Pair, entry_for}
use Rattle.readers.specs.Texts.{if_given, or_absent, or_span, res_span_text}
use Rattle.readers.specs.Places.{db_system, db_system_name}
use Rattle.derived.specs.ResourceName.{beside, method_name, method_of, route_by, asked_text, only_if, http_resource, messaging_resource, rpc_resource, graphql_resource, database_resource, given_resource, resource_name}
use Rattle.layer.specs.Later.{later_names, earlier_text, earlier_known, later_edition}
use Rattle.conversion.specs.Steps.{is_empty}

-- a name is empty where its earlier name is
abbrev none_empty : List Pair → Bool
none_empty [] = true
none_empty (p ∷ ps) = not (is_empty p.into) && none_empty ps

entry-given : (x : ℕ) (t u : List ℕ) (ps : List Pair) → none_empty ps ≡ true → is_empty (or_absent (entry_for t ps) (x ∷ u)) ≡ false
entry-given x t u [] e = refl
entry-given x t u (p ∷ ps) e =
    let q = and_parts (not (is_empty p.into)) (none_empty ps) e in
    cond_both (bytes_eq p.from t) (Some p.into) (entry_for t ps) (λ o. is_empty (or_absent o (x ∷ u)) ≡ false) (λ h. not-true _ q.0) (λ h. entry-given x t u ps q.1)

earlier-empty : (t : List ℕ) → is_empty (earlier_text t) ≡ is_empty t
earlier-empty [] = refl
earlier-empty (x ∷ t) = entry-given x (x ∷ t) t later_names refl

-- so the first of several texts is
given-first : (u : List ℕ) (o : Option (List ℕ)) (rest : List ℕ) → is_empty u ≡ false → is_empty (or_absent (or_span u o) rest) ≡ false
given-first [] o rest e = absurd (both_ways true e refl)
given-first (x ∷ u) o rest e = refl

first-empty : (o : Option (List ℕ)) (s : Option Known) (a b : List ℕ) → is_empty a ≡ is_empty b
    → is_empty (or_absent (or_span (bytes_of (option_map earlier_text o)) (text_of (option_map earlier_known s))) a) ≡ is_empty (or_absent (or_span (bytes_of o) (text_of s)) b)
first-empty None None a b e = e
first-empty None (Some k) a b e = earlier-empty k.text
first-empty (Some []) None a b e = e
first-empty (Some []) (Some k) a b e = earlier-empty k.text
first-empty (Some (x ∷ t)) s a b e = given-first (earlier_text (x ∷ t)) (text_of (option_map earlier_known s)) a (earlier-empty (x ∷ t))

only-same : (a b : List ℕ) (o : Option (List ℕ)) → is_empty a ≡ is_empty b → only_if a o ≡ only_if b o
only-same [] [] o e = refl
only-same [] (x ∷ b) o e = absurd (both_ways true e refl)
only-same (x ∷ a) [] o e = absurd (both_ways false refl e)
only-same (x ∷ a) (y ∷ b) o e = refl

module _ (r : Reading) where
  abbrev later : Reading
  later = later_edition r

  database : database_resource later ≡ database_resource r
  database =
      only-same (res_span_text later (db_system_name ∷ db_system ∷ [])) (res_span_text r (db_system_name ∷ db_system ∷ [])) (if_given (asked_text r) (asked_text r))
      (first-empty (r.resource db_system_name) (r.span db_system_name) _ _ (first-empty (r.resource db_system) (r.span db_system) [] [] refl))

  route : (k : SpanKind) → route_by later k ≡ route_by r k
  route Server = refl
  route Client = refl
  route Producer = refl
  route Consumer = refl
  route Internal = refl

  http : http_resource later ≡ http_resource r
  http = ap (λ t. if_given (method_of r) (beside (method_name (method_of r)) t)) (route r.kind)

  pub same-resource_name : resource_name later ≡ resource_name r
  same-resource_name =
      ap₂ (λ h d. or_absent (given_resource r) (or_absent h (or_absent (messaging_resource r) (or_absent (rpc_resource r) (or_absent (graphql_resource r) (or_absent d r.name)))))) http database

-- Values under keys, as a list of pairs. `same` is the test of two keys.
use Rattle.std.specs.Prelude.{◌≡◌, ℕ, Bool, false, cond, ◌||◌, List, [], ◌∷◌, ◌++◌, map}
use Rattle.std.specs.Str.{bytes_eq}

-- in place where the key stands, and else at the end
abbrev pub insert : {K V : Type 0} → (K → K → Bool) → List (K × V) → K → V → List (K × V)
insert same [] k v = (k, v) ∷ []
insert same (p ∷ m) k v = cond (same p.0 k) ((k, v) ∷ m) (p ∷ insert same m k v)

abbrev pub inserts : {K V : Type 0} → (K → K → Bool) → List (K × V) → List (K × V) → List (K × V)
inserts same m [] = m
inserts same m (p ∷ ps) = inserts same (insert same m p.0 p.1) ps

abbrev pub keys : {K V : Type 0} → List (K × V) → List K
keys [] = []
keys (p ∷ ps) = p.0 ∷ keys ps

abbrev pub among : {K : Type 0} → (K → K → Bool) → K → List K → Bool
among same k [] = false
among same k (x ∷ xs) = same x k || among same k xs

-- those of ks that are not in `seen`, each once, in the order of their first appearance
abbrev pub new : {K : Type 0} → (K → K → Bool) → List K → List K → List K
new same seen [] = []
new same seen (k ∷ ks) = cond (among same k seen) (new same seen ks) (k ∷ new same (seen ++ k ∷ []) ks)

-- the last value of k in ps, and d where it has none
abbrev pub last : {K V : Type 0} → (K → K → Bool) → V → K → List (K × V) → V
last same d k [] = d
last same d k (p ∷ ps) = last same (cond (same p.0 k) p.1 d) k ps

-- the keys in the order of their first appearance, each with its last value
abbrev pub settled : {K V : Type 0} → (K → K → Bool) → V → List (K × V) → List (K × V)
settled same d ps = map (λ k. (k, last same d k ps)) (new same [] (keys ps))

-- pairs inserted one after another under texts: each text once, where it came first, with its last value
abbrev pub InsertedInOrder : Type 0
InsertedInOrder = (d : List ℕ) (ps : List (List ℕ × List ℕ)) → inserts bytes_eq [] ps ≡ settled bytes_eq d ps

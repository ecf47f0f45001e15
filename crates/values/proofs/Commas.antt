-- An array's text, element by element.
use Rattle.std.proofs.Common.{◌≡◌, ℕ, Bool, false, List, [], ◌∷◌, ◌++◌, map, Some, None, sym, ap}
use Rattle.lent_bytes.specs.Memory.{rest}
use Rattle.values.specs.declared.kinds.ScalarKind.{ScalarKind}
use Rattle.values.specs.Format.{Element, element, elements_in}
use Rattle.values.specs.Shown.{atom_text, comma, listed}
use Rattle.values.proofs.Steps.{elements_next, elements_end}

-- one element, and what is still to come
pub listed_next : (q f : Bool) (k : ScalarKind) (b m : List ℕ) (e : Element) → Some e ≡ element k b → m ≡ rest b e.size → listed f (map (atom_text q) (elements_in k b)) ≡ (comma f ++ atom_text q e.atom) ++ listed false (map (atom_text q) (elements_in k m))
listed_next q f k b m e h g = rw g (ap (λ l. listed f (map (atom_text q) l)) (elements_next k b e (sym h)))

-- no more elements: the closing bracket
pub listed_end : (q f : Bool) (k : ScalarKind) (b : List ℕ) → None ≡ element k b → listed f (map (atom_text q) (elements_in k b)) ≡ 93 ∷ []
listed_end q f k b h = ap (λ l. listed f (map (atom_text q) l)) (elements_end k b (sym h))

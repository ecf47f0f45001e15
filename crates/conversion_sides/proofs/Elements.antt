-- Going through the elements of two arrays, one after the other.
use Rattle.std.proofs.Common.{◌≡◌, ℕ, Bool, true, false, not, ◌&&◌, List, Some, None, Option, option_map, sym, refl, is_none, is_some, true≢false}
use Rattle.std.proofs.lemmas.Bool.{false≢true}
use Rattle.lent_bytes.specs.Memory.{rest}
use Rattle.values.specs.declared.kinds.ScalarKind.{ScalarKind}
use Rattle.values.specs.declared.elements.Element.{Element as CodeElement}
use Rattle.values.specs.Format.{Element, element, element_of, elements_in}
use Rattle.values.proofs.Steps.{elements_next, elements_end}
use Rattle.conversion_sides.specs.Values.{same_atom, same_atoms}

module _ (k l : ScalarKind) (b m : List ℕ) where
  abbrev the_same : Bool
  the_same = same_atoms (elements_in k b) (elements_in l m)

  pub same-next : (e f : Element) → Some e ≡ element k b → Some f ≡ element l m → the_same ≡ (same_atom e.atom f.atom && same_atoms (elements_in k (rest b e.size)) (elements_in l (rest m f.size)))
  same-next e f h g = λ i. same_atoms (elements_next k b e (sym h) i) (elements_next l m f (sym g) i)

  pub same-shorter : (e : Element) → Some e ≡ element k b → None ≡ element l m → the_same ≡ false
  same-shorter e h g = λ i. same_atoms (elements_next k b e (sym h) i) (elements_end l m (sym g) i)

  pub same-end : (r : Option CodeElement) → None ≡ element k b → option_map element_of r ≡ element l m → is_none r ≡ the_same
  same-end None h g = λ i. same_atoms (sym (elements_end k b (sym h)) i) (sym (elements_end l m (sym g)) i)
  same-end (Some f) h g = λ i. same_atoms (sym (elements_end k b (sym h)) i) (sym (elements_next l m (element_of f) (sym g)) i)

pub none-said : {X : Type 0} (b : Bool) (r : Option X) → not b ≡ is_some r → b ≡ is_none r
none-said true None h = refl
none-said true (Some x) h = absurd (false≢true h)
none-said false None h = absurd (true≢false h)
none-said false (Some x) h = refl

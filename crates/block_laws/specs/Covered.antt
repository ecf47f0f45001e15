-- Events and links with their attributes say all that their rows do: in a lawful block each row of the lists 3 and 5 is an
-- event or a link, and each of the lists 4 and 6 stands under exactly one, all in their order.
use Rattle.std.specs.Prelude.{◌≡◌, ℕ, List, map}
use Rattle.std.specs.List.{flat_map}
use Rattle.blocks.specs.Facts.{RowFact, row_facts}
use Rattle.blocks.specs.Lawful.{Lawful}
use Rattle.blocks.specs.Projections.{Owned, of_list, owning}

-- the owners are the rows of the list h, and the attributes under them, one after the other, those of the list a
pub record Covers (h a : ℕ) (rows : List RowFact) : Type 0 where
  pub heads : map (λ (o : Owned). o.head) (owning h a rows) ≡ of_list h rows
  pub attributes : flat_map (λ (o : Owned). o.attributes) (owning h a rows) ≡ of_list a rows

abbrev pub OwnedExactly : Type 0
OwnedExactly = (m : List ℕ) → Lawful m → Covers 3 4 (row_facts m) × Covers 5 6 (row_facts m)

-- Attributes by key, as the code looks for them: of several rows with one key the first says the place and the last the
-- value.
use Rattle.std.specs.Prelude.{◌≡◌, ℕ, ◌-◌, ◌<◌, Bool, cond, not, ◌&&◌, List, [], ◌∷◌, map, length, Some, None, Option, ◌==◌}
use Rattle.std.specs.List.{slice_get, range_with_len, list_any}
use Rattle.std.specs.Option.{option_map, option_flatten}
use Rattle.std.specs.Str.{bytes_eq}
use Rattle.keyed.specs.Keyed.{inserts, new}
use Rattle.std.specs.declared.ops.Range.{Range}
use Rattle.blocks.specs.declared.lists.Owner.{Owner}
use Rattle.blocks.specs.Facts.{RowFact, row_fact, row_facts}
use Rattle.blocks.specs.Faults.{list_in}
use Rattle.blocks.specs.Layout.{rows_in}
use Rattle.blocks.specs.Lists.{owner_list, owned_list}
use Rattle.blocks.specs.Places.{run_rows}
use Rattle.blocks.specs.Projections.{Owned, of_list, owned_by}
use Rattle.span_args.specs.ReadingOf.{or_row}

-- the events or links of the block b, and the attributes of one of them in a run of rows
abbrev pub owners_in : List ℕ → Owner → List Owned
owners_in b o = owned_by o (row_facts b)

abbrev pub attributes_in : List ℕ → Owner → Range ℕ → List RowFact
attributes_in b o run = of_list (owned_list o) (run_rows b run)

abbrev pub key_of : RowFact → List ℕ
key_of r = r.key

-- the keys of rows, each once, in the order in which they came first
unfoldable pub keys_once : List RowFact → List (List ℕ)
keys_once rows = new bytes_eq [] (map key_of rows)

-- the last row with the key k
abbrev pub last_with : List ℕ → List RowFact → Option RowFact
last_with k [] = None
last_with k (r ∷ rs) = or_row (last_with k rs) (cond (bytes_eq r.key k) (Some r) None)

-- of each key the last row, where the first stands
abbrev pub keyed_row : RowFact → List ℕ × RowFact
keyed_row r = (r.key, r)

unfoldable pub by_key : List RowFact → List RowFact
by_key rows = map (λ p. p.1) (inserts bytes_eq [] (map keyed_row rows))

-- of the n-th event or link: how many keys it has, and the last row with the i-th of them
abbrev pub count_by_key : List Owned → ℕ → Option ℕ
count_by_key owners n = option_map (λ (o : Owned). length (by_key o.attributes)) (slice_get owners n)

abbrev pub nth_by_key : List Owned → ℕ → ℕ → Option RowFact
nth_by_key owners n i = option_flatten (option_map (λ (o : Owned). slice_get (by_key o.attributes) i) (slice_get owners n))

-- the key of the row i of the block b
abbrev pub key_at : List ℕ → ℕ → List ℕ
key_at b i = (row_fact b i).key

-- whether a row is of the list l with the key k
abbrev pub has_key : ℕ → List ℕ → RowFact → Bool
has_key l k r = r.list == l && bytes_eq r.key k

-- whether a row of the list l has the key k, from the row s on and above the row i
abbrev pub is_above : List ℕ → ℕ → ℕ → ℕ → List ℕ → Bool
is_above b l s i k = list_any (λ j. has_key l k (row_fact b j)) (range_with_len s (i - s))

-- whether the row i is of the list l, and no row of that list has its key from the row s on and above it
unfoldable pub is_first : List ℕ → ℕ → ℕ → ℕ → Bool
is_first b l s i = (row_fact b i).list == l && not (is_above b l s i (key_at b i))

-- the row j is an attribute below an event or a link, which stands in the row `head`
pub record IsUnder (b : List ℕ) (o : Owner) (j : ℕ) : Type 0 where
  pub head : ℕ
  pub above : head < j
  pub owner : list_in b head ≡ owner_list o
  pub within : j < rows_in b
  pub list : list_in b j ≡ owned_list o

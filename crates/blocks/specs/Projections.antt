-- What the rows say, list by list: the rows of a list in order, and each event and link with the attributes under it. They
-- are defined on any rows.
use Rattle.std.specs.Prelude.{ℕ, Bool, cond, List, [], ◌∷◌, length, filter, Option, ◌==◌, slice_index}
use Rattle.std.specs.Option.{option_map, option_flatten}
use Rattle.std.specs.List.{slice_get}
use Rattle.lent_bytes.specs.Fields.{id_in}
use Rattle.blocks.specs.declared.lists.Owner.{Owner}
use Rattle.blocks.specs.declared.lists.Owner.TheVariants.{Event, Link}
use Rattle.blocks.specs.declared.row.LinkIds.{LinkIds}
use Rattle.blocks.specs.Facts.{RowFact}

abbrev pub in_list : ℕ → RowFact → Bool
in_list l r = r.list == l

-- the rows of a list, in order
unfoldable pub of_list : ℕ → List RowFact → List RowFact
of_list l rows = filter (in_list l) rows

-- the rows above the first of the list h
unfoldable pub up_to : ℕ → List RowFact → List RowFact
up_to h [] = []
up_to h (r ∷ rs) = cond (in_list h r) [] (r ∷ up_to h rs)

-- an event or a link, and the attributes under it
pub record Owned : Type 0 where
  pub head : RowFact
  pub attributes : List RowFact

-- the rows of the list h, each with the rows of the list a to which it is the nearest of h above
unfoldable pub owning : ℕ → ℕ → List RowFact → List Owned
owning h a [] = []
owning h a (r ∷ rs) = cond (in_list h r) (record { head = r; attributes = of_list a (up_to h rs) } ∷ owning h a rs) (owning h a rs)

abbrev pub events_of : List RowFact → List Owned
events_of rows = owning 3 4 rows

abbrev pub links_of : List RowFact → List Owned
links_of rows = owning 5 6 rows

abbrev pub owned_by : Owner → List RowFact → List Owned
owned_by Event rows = events_of rows
owned_by Link rows = links_of rows

-- of the n-th event or link: the row itself, how many attributes it has, and the k-th of them
abbrev pub nth_head : List Owned → ℕ → Option RowFact
nth_head owners n = option_map (λ (o : Owned). o.head) (slice_get owners n)

abbrev pub nth_count : List Owned → ℕ → Option ℕ
nth_count owners n = option_map (λ (o : Owned). length o.attributes) (slice_get owners n)

abbrev pub nth_under : List Owned → ℕ → ℕ → Option RowFact
nth_under owners n k = option_flatten (option_map (λ (o : Owned). slice_get o.attributes k) (slice_get owners n))

-- a link's value: trace id, span id and flags
abbrev pub link_ids_in : List ℕ → LinkIds
link_ids_in v = record { trace_id_high = id_in v 0; trace_id_low = id_in v 8; span_id = id_in v 16; flags = slice_index v 24 }

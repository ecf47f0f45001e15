-- The lists of rows and their numbers.
use Rattle.std.specs.Prelude.{◌≡◌, if◌then◌else◌, ℕ, cond, Some, None, Option, Result, ◌==◌, nat_lt}
use Rattle.std.specs.Option.{option_map}
use Rattle.std.specs.Result.{result_ok}
use Rattle.blocks.specs.declared.lists.List.{List as ListCase}
use Rattle.blocks.specs.declared.lists.List.TheVariants.{Span, Resource, Scope, Event, EventAttribute, Link, LinkAttribute}
use Rattle.blocks.specs.declared.lists.UnknownList.{UnknownList}
use Rattle.blocks.specs.declared.lists.PlainList.{PlainList}
use Rattle.blocks.specs.declared.lists.PlainList.TheVariants.{Span as PlainSpan, Resource as PlainResource, Scope as PlainScope}
use Rattle.blocks.specs.declared.lists.Owner.{Owner}
use Rattle.blocks.specs.declared.lists.Owner.TheVariants.{Event as EventOwner, Link as LinkOwner}

abbrev pub list_number : ListCase → ℕ
list_number Span = 0
list_number Resource = 1
list_number Scope = 2
list_number Event = 3
list_number EventAttribute = 4
list_number Link = 5
list_number LinkAttribute = 6

abbrev pub list_of : ℕ → Option ListCase
list_of n =
    cond (n == 0) (Some Span) (cond (n == 1) (Some Resource) (cond (n == 2) (Some Scope) (cond (n == 3) (Some Event) (cond (n == 4) (Some EventAttribute) (cond (n == 5) (Some Link) (cond (n == 6) (Some LinkAttribute) None))))))

-- the list that a number names, if any: it has just that number, and from 7 on there is none
pub record ListRead (n : ℕ) (r : Result ListCase UnknownList) : Type 0 where
  pub list : result_ok r ≡ list_of n
  pub back : option_map list_number (result_ok r) ≡ (if nat_lt n 7 then Some n else None)

-- the lists of attributes that no event or link owns
abbrev pub plain_number : PlainList → ℕ
plain_number PlainSpan = 0
plain_number PlainResource = 1
plain_number PlainScope = 2

-- the list of events or links, and that of their attributes
abbrev pub owner_list : Owner → ℕ
owner_list EventOwner = 3
owner_list LinkOwner = 5

abbrev pub owned_list : Owner → ℕ
owned_list EventOwner = 4
owned_list LinkOwner = 6

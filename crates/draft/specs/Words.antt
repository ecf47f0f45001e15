-- The words that name lists, kinds of spans and statuses.
use Rattle.std.specs.Prelude.{◌≡◌, ℕ, List, [], ◌∷◌, Some, codes, Option}
use Rattle.std.specs.List.{find}
use Rattle.std.specs.Str.{bytes_eq}
use Rattle.blocks.specs.Names.{kind_name, status_name}
use Rattle.blocks.specs.declared.lists.List.{List as ListCase}
use Rattle.blocks.specs.declared.lists.List.TheVariants.{Span, Resource, Scope, Event, EventAttribute, Link, LinkAttribute}
use Rattle.blocks.specs.declared.span_kind.SpanKind.{SpanKind}
use Rattle.blocks.specs.declared.span_kind.SpanKind.TheVariants.{Internal, Server, Client, Producer, Consumer}
use Rattle.blocks.specs.declared.span_kind.StatusCode.{StatusCode}
use Rattle.blocks.specs.declared.span_kind.StatusCode.TheVariants.{Unset, Ok, Error}

-- Of kinds and statuses the words are those that they print. Each word names what it is the word of.
abbrev pub word_of_list : ListCase → List ℕ
word_of_list Span = codes "span"
word_of_list Resource = codes "resource"
word_of_list Scope = codes "scope"
word_of_list Event = codes "event"
word_of_list EventAttribute = codes "event-attribute"
word_of_list Link = codes "link"
word_of_list LinkAttribute = codes "link-attribute"

abbrev pub list_in : List ℕ → Option ListCase
list_in word =
    find (λ l. bytes_eq (word_of_list l) word) (Span ∷ Resource ∷ Scope ∷ Event ∷ EventAttribute ∷ Link ∷ LinkAttribute ∷ [])

abbrev pub ListsReadBack : Type 0
ListsReadBack = (l : ListCase) → list_in (word_of_list l) ≡ Some l

abbrev pub span_kind_in : List ℕ → Option SpanKind
span_kind_in word =
    find (λ k. bytes_eq (kind_name k) word) (Internal ∷ Server ∷ Client ∷ Producer ∷ Consumer ∷ [])

abbrev pub KindsReadBack : Type 0
KindsReadBack = (k : SpanKind) → span_kind_in (kind_name k) ≡ Some k

abbrev pub status_in : List ℕ → Option StatusCode
status_in word = find (λ s. bytes_eq (status_name s) word) (Unset ∷ Ok ∷ Error ∷ [])

abbrev pub StatusesReadBack : Type 0
StatusesReadBack = (s : StatusCode) → status_in (status_name s) ≡ Some s

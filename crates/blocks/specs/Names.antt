-- The words that name lists, kinds of span and statuses.
use Rattle.std.specs.Prelude.{ℕ, List, codes}
use Rattle.blocks.specs.declared.lists.List.{List as ListCase}
use Rattle.blocks.specs.declared.lists.List.TheVariants.{Span, Resource, Scope, Event, EventAttribute, Link, LinkAttribute}
use Rattle.blocks.specs.declared.span_kind.SpanKind.{SpanKind}
use Rattle.blocks.specs.declared.span_kind.SpanKind.TheVariants.{Internal, Server, Client, Producer, Consumer}
use Rattle.blocks.specs.declared.span_kind.StatusCode.{StatusCode}
use Rattle.blocks.specs.declared.span_kind.StatusCode.TheVariants.{Unset, Ok, Error}

abbrev pub list_name : ListCase → List ℕ
list_name Span = codes "span"
list_name Resource = codes "resource"
list_name Scope = codes "scope"
list_name Event = codes "event"
list_name EventAttribute = codes "event attribute"
list_name Link = codes "link"
list_name LinkAttribute = codes "link attribute"

abbrev pub kind_name : SpanKind → List ℕ
kind_name Internal = codes "internal"
kind_name Server = codes "server"
kind_name Client = codes "client"
kind_name Producer = codes "producer"
kind_name Consumer = codes "consumer"

abbrev pub status_name : StatusCode → List ℕ
status_name Unset = codes "unset"
status_name Ok = codes "ok"
status_name Error = codes "error"

-- What two spans differ in, counted, and when they agree.
use Rattle.std.specs.Prelude.{Bool, true, false, ◌&&◌, ◌==◌, Decides}
use Rattle.blocks.specs.declared.lists.Owner.TheVariants.{Event, Link}
use Rattle.conversion.specs.Spans.{Span}
use Rattle.conversion_law.specs.Agreement.{Agree}
use Rattle.conversion_law.specs.IsUnique.{UniqueIn}
use Rattle.conversion_sides.specs.declared.entries.Apart.{Apart}
use Rattle.conversion_sides.specs.declared.entries.Part.TheVariants.{Meta, Metrics}
use Rattle.conversion_sides.specs.declared.compared.Compared.{Compared}
use Rattle.conversion_sides.specs.Fields.{fields_apart}
use Rattle.conversion_sides.specs.Entries.{entries_apart}
use Rattle.conversion_sides.specs.Owners.{owners_apart}

abbrev pub none_apart : Apart → Bool
none_apart a = a.differ == 0 && (a.only_left == 0 && a.only_right == 0)

-- nothing differs but under the ten names
abbrev pub agrees : Compared → Bool
agrees c = c.fields == 0 && (none_apart c.meta && (none_apart c.metrics && (none_apart c.links && none_apart c.events)))

abbrev pub compared : Span → Span → Compared
compared s t =
    record {
      fields = fields_apart s t;
      meta = entries_apart Meta s t false;
      metrics = entries_apart Metrics s t false;
      links = owners_apart Link s t;
      events = owners_apart Event s t;
      meta_left_out = entries_apart Meta s t true;
      metrics_left_out = entries_apart Metrics s t true;
    }

-- where no key stands twice in either of two spans, these counts have them agree exactly where they agree by the law
abbrev pub AgreesExactly : Compared → Span → Span → Type 0
AgreesExactly c s t = UniqueIn s → UniqueIn t → Decides (agrees c) (Agree s t)

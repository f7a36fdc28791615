use Rattle.std.proofs.Common.{◌≡◌, ◌++◌, drop, map}
use Rattle.search.specs.Views.{loaded_view}
use Rattle.wrong_references.specs.Entries.{entries_of_relas}
use Rattle.wrong_references.specs.Overlaps.{field_at}
use Rattle.wrong_references.proofs.overlaps.list_fields.Given as goal

abbrev pub invariant-loop-rela : goal.invariant-loop-rela
invariant-loop-rela l =
    l.fields.items ++ map field_at (entries_of_relas l.object (loaded_view l.one) (drop l.rela-index l.relas))
    ≡ map field_at (entries_of_relas l.object (loaded_view l.one) l.relas)

use Rattle.std.proofs.Common.{◌≡◌, ◌++◌, drop, map}
use Rattle.search.specs.Views.{loaded_view}
use Rattle.wrong_references.specs.Entries.{entries_in}
use Rattle.wrong_references.specs.Overlaps.{field_at}
use Rattle.wrong_references.proofs.overlaps.list_entries.Given as goal

abbrev pub invariant-loop-number : goal.invariant-loop-number
invariant-loop-number l =
    l.fields.items ++ map field_at (entries_in l.object (loaded_view l.one) l.rela l.number (drop l.number l.run))
    ≡ l.fn.fields.items ++ map field_at (entries_in l.object (loaded_view l.one) l.rela 0 l.run)

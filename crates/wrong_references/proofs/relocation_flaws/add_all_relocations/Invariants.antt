use Rattle.std.proofs.Common.{drop}
use Rattle.search.specs.Views.{loaded_views}
use Rattle.flaws.specs.Flaws.{AreAdded}
use Rattle.wrong_references.specs.Entries.{entries, entries_of}
use Rattle.wrong_references.specs.References.{AddsEntry, Told, told_by}
use Rattle.wrong_references.proofs.relocation_flaws.add_all_relocations.Given as goal

abbrev pub invariant-loop-k : goal.invariant-loop-k
invariant-loop-k g l =
    (end : Told) → AreAdded (AddsEntry l.resolved) (entries_of l.k (drop l.k (loaded_views l.objects))) (told_by l.flaws.items (g.T.NameTable.rows l.names)) end
    → AreAdded (AddsEntry l.resolved) (entries (loaded_views l.objects)) (told_by l.fn.flaws.items (g.T.NameTable.rows l.fn.names)) end

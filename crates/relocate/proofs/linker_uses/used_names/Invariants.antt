use Rattle.std.proofs.Common.{◌≡◌, ℕ, List, ◌||◌}
use Rattle.std.specs.List.{list_any}
use Rattle.elf_model.proofs.FlatRelocations.{left_of_objects}
use Rattle.elf_model.specs.Link.Relocation.{relocations}
use Rattle.elf_model.specs.Link.UsedNames.{is_among, uses_line}
use Rattle.search.specs.Views.{loaded_view, loaded_views}
use Rattle.relocate.proofs.linker_uses.used_names.Given as goal

abbrev pub invariant-loop-k : goal.invariant-loop-k
invariant-loop-k l =
    (n : List ℕ) →
    (is_among l.names n || list_any (uses_line (loaded_views l.objects) n) (left_of_objects loaded_view l.objects l.k))
    ≡ list_any (uses_line (loaded_views l.objects) n) (relocations (loaded_views l.objects))

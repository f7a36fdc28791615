use Rattle.std.proofs.Common.{◌≡◌}
use Rattle.elf_model.proofs.FlatRelocations.{left_of_objects}
use Rattle.elf_model.specs.Link.Relocation.{relocations}
use Rattle.search.specs.Views.{loaded_view}
use Rattle.got_tls.specs.Asking.{nothing, with_relocations}
use Rattle.got_tls.specs.AskedViews.{wants}
use Rattle.got_tls.proofs.asked_slots.asked_by.Given as goal

abbrev pub invariant-loop-k : goal.invariant-loop-k
invariant-loop-k l =
    with_relocations l.loaded.objects (wants l.asked) (left_of_objects loaded_view l.objects l.k)
    ≡ with_relocations l.loaded.objects (nothing l.loaded.objects) (relocations l.loaded.objects)

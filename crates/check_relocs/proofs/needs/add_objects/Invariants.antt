use Rattle.elf_model.proofs.FlatRelocations.{left_of_objects}
use Rattle.elf_model.specs.Link.Relocation.{relocations}
use Rattle.check_load.specs.Views.{loaded_view}
use Rattle.check_relocs.proofs.NeedSteps.{Gaining}
use Rattle.check_relocs.proofs.needs.add_objects.Given as goal

abbrev pub invariant-loop-k : goal.invariant-loop-k
invariant-loop-k l =
    Gaining l.bindings.objects l.bindings.places.slots (left_of_objects loaded_view l.objects l.k) (relocations l.bindings.objects) l.fn.needs l.needs

use Rattle.std.specs.Prelude.{All}
use Rattle.check_load.specs.Views.{loaded_view}
use Rattle.elf_model.proofs.FlatRelocations.{left_of_objects}
use Rattle.elf_model.proofs.Rests.{Left}
use Rattle.elf_model.specs.Link.Relocation.{relocations}
use Rattle.link_fields.proofs.Lists.{Within}
use Rattle.link_fields.specs.Parts.{IsFieldRightUnlessOut}
use Rattle.link_fields.proofs.relocations.wrong_among.Given as goal

abbrev pub invariant-loop-k : goal.invariant-loop-k
invariant-loop-k l =
    Left (All (IsFieldRightUnlessOut l.parts l.taken l.drops) (relocations l.parts.objects))
    (All (IsFieldRightUnlessOut l.parts l.taken l.drops) (left_of_objects loaded_view l.objects l.k))
    × Within (left_of_objects loaded_view l.objects l.k) (relocations l.parts.objects)

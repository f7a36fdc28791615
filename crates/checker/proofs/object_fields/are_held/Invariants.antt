use Rattle.std.proofs.Common.{◌≤◌, length}
use Rattle.elf_model.proofs.FlatRelocations.{left_of_objects}
use Rattle.elf_model.proofs.Rests.{Left}
use Rattle.elf_model.specs.Link.Relocation.{relocations}
use Rattle.elf_model.specs.Image.RightLink.{objects_of, where_of}
use Rattle.check_load.specs.Views.{loaded_view}
use Rattle.check_link.specs.Views.{placed_views}
use Rattle.check_relocs.specs.Fields.{AreRight}
use Rattle.checker.specs.Comparing.{AreCompared}
use Rattle.checker.proofs.object_fields.are_held.Given as goal

abbrev pub invariant-loop-k : goal.invariant-loop-k
invariant-loop-k l = record {
  within : l.k ≤ length l.objects;
  compared : AreCompared l.bound l.k l.compared.held (placed_views l.compared.left.now);
  right :
      Left (AreRight (objects_of l.bound) (where_of l.bound) (relocations (objects_of l.bound)))
      (AreRight (objects_of l.bound) (where_of l.bound) (left_of_objects loaded_view l.objects l.k));
}

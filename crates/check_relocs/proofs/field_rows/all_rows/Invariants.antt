use Rattle.std.proofs.Common.{◌≡◌, ◌<◌, ℕ, get_or, length}
use Rattle.std.specs.Global.{Vec}
use Rattle.elf_model.proofs.FlatRelocations.{left_of_objects}
use Rattle.elf_model.specs.Link.Loading.{LoadedObject}
use Rattle.elf_model.specs.Link.Relocation.{relocations}
use Rattle.elf_model.proofs.Rests.{Left}
use Rattle.check_relocs.specs.Fields.{AreRight, IsRowOf}
use Rattle.check_load.specs.Views.{loaded_view}
use Rattle.check_relocs.specs.declared.fields.Field.{Field}
use Rattle.check_relocs.proofs.field_rows.all_rows.Given as goal

abbrev pub invariant-loop-k : goal.invariant-loop-k
invariant-loop-k l = record {
  count : length l.rows.items ≡ l.k;
  rows :
      (k : ℕ) (d : Vec Field) → k < length l.rows.items → (o : LoadedObject)
      → IsRowOf l.bindings.objects l.bindings.places k (get_or l.bindings.objects k o) (get_or l.rows.items k d).items;
  right :
      Left (AreRight l.bindings.objects l.bindings.places (relocations l.bindings.objects))
      (AreRight l.bindings.objects l.bindings.places (left_of_objects loaded_view l.objects l.k));
}

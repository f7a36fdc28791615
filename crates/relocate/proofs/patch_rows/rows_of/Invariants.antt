use Rattle.elf_model.proofs.FlatRelocations.{left_of_objects}
use Rattle.elf_model.specs.Link.Relocation.{relocations}
use Rattle.relocate.proofs.Fitted.{LeavesToFit}
use Rattle.relocate.proofs.ObjectRows.{AreFirstRows}
use Rattle.relocate.specs.Values.{where_in}
use Rattle.search.specs.Views.{loaded_view, loaded_views}
use Rattle.relocate.proofs.patch_rows.rows_of.Given as goal

abbrev pub invariant-loop-k : goal.invariant-loop-k
invariant-loop-k l = record {
  rows : AreFirstRows (loaded_views l.objects) (where_in l.placement) l.k l.rows.items;
  leaves :
      LeavesToFit (loaded_views l.objects) (where_in l.placement) (relocations (loaded_views l.objects))
      (left_of_objects loaded_view l.objects l.k);
}

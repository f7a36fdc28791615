use Rattle.std.proofs.Common.{◌≡◌, ℕ, Some, length}
use Rattle.std.specs.List.{slice_get}
use Rattle.elf_model.specs.Link.Loading.{LoadedObject}
use Rattle.search.specs.Views.{loaded_views}
use Rattle.debug_image.specs.KeptTables.{IsStandIn, StandInTable}
use Rattle.debug_image.proofs.stand_ins.stand_ins.Given as goal

abbrev pub invariant-loop-loaded : goal.invariant-loop-loaded
invariant-loop-loaded l = record {
  count : length l.tables.items ≡ l.loaded-index;
  each :
      (k : ℕ) (o : LoadedObject) (t : StandInTable) → slice_get (loaded_views l.objects) k ≡ Some o → slice_get l.tables.items k ≡ Some t →
      IsStandIn (loaded_views l.objects) o t;
}

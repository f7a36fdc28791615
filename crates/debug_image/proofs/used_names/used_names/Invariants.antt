use Rattle.std.proofs.Common.{◌≡◌, [], ℕ, Some, get_or, length}
use Rattle.std.specs.List.{slice_get}
use Rattle.elf_model.specs.Link.Meaning.{meaning}
use Rattle.debug_image.specs.DebugPlaces.{IsUseOf, data_at}
use Rattle.debug_image.specs.declared.data_places.Used.{Used}
use Rattle.debug_image.proofs.used_names.used_names.Given as goal

abbrev pub invariant-loop-number : goal.invariant-loop-number
invariant-loop-number l = record {
  count : length l.table.items ≡ l.number;
  each :
      (n : ℕ) (u : Used) → slice_get l.table.items n ≡ Some u → IsUseOf (data_at l.places) (meaning (data_at l.places).objects (get_or l.loaded.names n [])) u;
}

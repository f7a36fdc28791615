use Rattle.std.proofs.Common.{◌≡◌, ◌<◌, ℕ, List, Some, true}
use Rattle.std.specs.List.{slice_get}
use Rattle.elf_model.specs.Inputs.ArchiveFile.{IndexEntry}
use Rattle.check_load.specs.Places.{IsSized, has_place}
use Rattle.check_load.proofs.places.add_entries.Given as goal

abbrev pub invariant-loop-i : goal.invariant-loop-i
invariant-loop-i l = record {
  sized : IsSized l.names;
  placed : (q : ℕ) (e : IndexEntry) → q < l.i → slice_get l.entries q ≡ Some e → has_place l.names e.name l.item q ≡ true;
  stays : (n : List ℕ) (i q : ℕ) → has_place l.fn.names n i q ≡ true → has_place l.names n i q ≡ true;
}

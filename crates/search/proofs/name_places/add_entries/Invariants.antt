use Rattle.std.proofs.Common.{◌≡◌, ◌<◌, ℕ, List, Some, true}
use Rattle.std.specs.List.{slice_get}
use Rattle.elf_model.specs.Inputs.ArchiveFile.{IndexEntry}
use Rattle.search.specs.Places.{has_place}
use Rattle.search.proofs.name_places.add_entries.Given as goal

abbrev pub invariant-loop-i : goal.invariant-loop-i
invariant-loop-i l = record {
  placed : (q : ℕ) (e : IndexEntry) → q < l.i → slice_get l.entries q ≡ Some e → has_place l.names.entries e.name l.archive q ≡ true;
  stays : (n : List ℕ) (k q : ℕ) → has_place l.fn.names.entries n k q ≡ true → has_place l.names.entries n k q ≡ true;
}

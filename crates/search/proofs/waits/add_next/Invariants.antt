use Rattle.std.proofs.Common.{◌≡◌, ◌<◌, ℕ, Some, true}
use Rattle.std.specs.List.{slice_get}
use Rattle.elf_model.specs.Inputs.ArchiveFile.{IndexEntry}
use Rattle.search.specs.Loaders.{is_next_of, loaded}
use Rattle.search.specs.Places.{is_waiting}
use Rattle.search.proofs.waits.add_next.Given as goal

abbrev pub invariant-loop-i : goal.invariant-loop-i
invariant-loop-i g l = record {
  wait :
      (q : ℕ) (e : IndexEntry) → q < l.i → slice_get l.entries q ≡ Some e → is_next_of l.loader.plan.now (loaded l.loader) l.item e ≡ true
      → is_waiting l.waiting l.archive q ≡ true;
  stays : (k q : ℕ) → is_waiting l.fn.waiting k q ≡ true → is_waiting l.waiting k q ≡ true;
}

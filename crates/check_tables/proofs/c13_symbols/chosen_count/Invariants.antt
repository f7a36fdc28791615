use Rattle.std.proofs.Common.{◌≡◌, ◌+◌, ◌≤◌, drop, length}
use Rattle.std.specs.Prelude.{◌↔◌, All, filter}
use Rattle.elf_model.specs.Link.ChosenSymbols.{is_chosen}
use Rattle.elf_model.specs.Link.Meaning.{meanings_of}
use Rattle.check_tables.specs.Listed.{IsChosenIfStrong}
use Rattle.check_tables.proofs.c13_symbols.chosen_count.Given as goal

abbrev pub invariant-loop-i : goal.invariant-loop-i
invariant-loop-i l = record {
  few : l.count ≤ l.i;
  count :
      l.count + length (meanings_of l.bindings.objects (filter (is_chosen l.bindings.objects) (drop l.i l.definitions)))
      ≡ length (meanings_of l.bindings.objects (filter (is_chosen l.bindings.objects) l.definitions));
  unique : All (IsChosenIfStrong l.bindings.objects) l.definitions ↔ All (IsChosenIfStrong l.bindings.objects) (drop l.i l.definitions);
}

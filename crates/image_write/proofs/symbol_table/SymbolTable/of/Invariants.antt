use Rattle.std.proofs.Common.{◌≡◌, ◌+◌, drop, length}
use Rattle.elf_model.specs.Image.SymbolTable.{entry_count, name_section}
use Rattle.resolve.specs.Views.{meaning_views}
use Rattle.search.specs.Views.{loaded_views}
use Rattle.image_write.specs.Tables.{IsInRange, entered, name_bytes}
use Rattle.image_write.proofs.symbol_table.SymbolTable.of.Given as goal

abbrev pub invariant-loop-definition : goal.invariant-loop-definition
invariant-loop-definition l = record {
  range : IsInRange l.table;
  start : l.table.start ≡ l.start;
  count : l.table.count + length (entered (loaded_views l.objects) (meaning_views (drop l.definition-index l.listed)))
      ≡ entry_count (entered (loaded_views l.objects) (meaning_views l.listed));
  names : l.table.names + length (name_bytes (loaded_views l.objects) (meaning_views (drop l.definition-index l.listed)))
      ≡ length (name_section (entered (loaded_views l.objects) (meaning_views l.listed)));
}

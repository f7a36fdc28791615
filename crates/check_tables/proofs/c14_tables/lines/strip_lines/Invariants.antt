use Rattle.std.proofs.Common.{◌≡◌, ◌+◌, ◌<◌, ◌^◌, ℕ, List, length}
use Rattle.std.specs.Prelude.{All}
use Rattle.elf_model.proofs.Rests.{Left}
use Rattle.elf_model.specs.Image.SymbolTable.{tabled}
use Rattle.check_tables.specs.Listed.{IsLine}
use Rattle.check_tables.specs.Tabled.{AreLeft, ended_names}
use Rattle.check_tables.proofs.c14_tables.lines.strip_lines.Given as goal

abbrev pub invariant-loop-line : goal.invariant-loop-line
invariant-loop-line l = record {
  left :
      (others : List ℕ) →
      Left (AreLeft l.bindings.places l.tables.entries.now l.tables.names.now l.tables.name_at (tabled l.bindings.objects l.lines.rows) others)
      (AreLeft l.bindings.places l.left.entries.now l.left.names.now l.left.name_at (tabled l.bindings.objects l.line-iterator) others);
  offset :
      l.left.name_at + length (ended_names (tabled l.bindings.objects l.line-iterator))
      ≡ l.tables.name_at + length (ended_names (tabled l.bindings.objects l.lines.rows));
  lines : All (IsLine l.bindings.objects l.bindings.places) l.line-iterator;
  fits : l.left.name_at < 2 ^ 32;
}

use Rattle.std.proofs.Common.{◌≡◌, ◌++◌, drop, map}
use Rattle.std.specs.Prelude.{All}
use Rattle.elf_model.specs.Link.Relocation.{IsLawfulRelocation, relocations_from}
use Rattle.search.specs.KeptLists.{relocations_of_relas}
use Rattle.relocate.specs.Fields.{field_of}
use Rattle.relocate.specs.SymbolTables.{all_of, referring}
use Rattle.relocate.proofs.field_list.list_fields.Given as goal

abbrev pub invariant-loop-rela : goal.invariant-loop-rela
invariant-loop-rela l = record {
  fields :
      l.fields.items ++ map field_of (relocations_of_relas l.referrer.number (referring l.referrer) (drop l.rela-index l.relas))
      ≡ map field_of (relocations_from l.referrer.number (referring l.referrer));
  lawful : All (IsLawfulRelocation (all_of l.referrer)) (relocations_of_relas l.referrer.number (referring l.referrer) (drop l.rela-index l.relas));
}

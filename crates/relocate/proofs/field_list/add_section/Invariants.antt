use Rattle.std.proofs.Common.{◌≡◌, ◌++◌, map}
use Rattle.std.specs.Prelude.{All}
use Rattle.elf_model.specs.Link.Relocation.{IsLawfulRelocation, relocation_of}
use Rattle.search.specs.KeptLists.{relocations_by}
use Rattle.relocate.specs.SymbolTables.{all_of, referring}
use Rattle.relocate.specs.Fields.{field_of}
use Rattle.relocate.proofs.field_list.add_section.Given as goal

abbrev pub invariant-loop-entry : goal.invariant-loop-entry
invariant-loop-entry l = record {
  fields :
      l.fields.items ++ map field_of (map (relocation_of l.referrer.number (referring l.referrer) l.fn.rela.target) l.entry-iterator)
      ≡ l.fn.fields.items ++ map field_of (relocations_by l.referrer.number (referring l.referrer) l.fn.rela);
  lawful : All (IsLawfulRelocation (all_of l.referrer)) (map (relocation_of l.referrer.number (referring l.referrer) l.fn.rela.target) l.entry-iterator);
}

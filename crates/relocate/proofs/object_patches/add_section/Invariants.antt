use Rattle.std.proofs.Common.{◌≡◌, ◌++◌, map}
use Rattle.elf_model.specs.Link.Relocation.{relocation_of}
use Rattle.search.specs.KeptLists.{relocations_by}
use Rattle.relocate.proofs.Fitted.{LeavesToFit}
use Rattle.relocate.specs.SymbolTables.{all_valued, valued_object, where_of}
use Rattle.relocate.specs.Values.{patch_of}
use Rattle.relocate.proofs.object_patches.add_section.Given as goal

abbrev pub invariant-loop-entry : goal.invariant-loop-entry
invariant-loop-entry l = record {
  patches :
      l.patches.items
      ++ map (patch_of (all_valued l.valued) (where_of l.valued)) (map (relocation_of l.valued.number (valued_object l.valued) l.fn.rela.target) l.entry-iterator)
      ≡ l.fn.patches.items ++ map (patch_of (all_valued l.valued) (where_of l.valued)) (relocations_by l.valued.number (valued_object l.valued) l.fn.rela);
  leaves :
      LeavesToFit (all_valued l.valued) (where_of l.valued) (relocations_by l.valued.number (valued_object l.valued) l.fn.rela)
      (map (relocation_of l.valued.number (valued_object l.valued) l.fn.rela.target) l.entry-iterator);
}

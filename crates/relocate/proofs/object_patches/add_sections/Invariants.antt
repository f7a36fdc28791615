use Rattle.std.proofs.Common.{◌≡◌, ◌++◌, drop, map}
use Rattle.relocate.proofs.Fitted.{LeavesToFit}
use Rattle.search.specs.KeptLists.{relocations_of_relas}
use Rattle.relocate.specs.SymbolTables.{all_valued, valued_object, where_of}
use Rattle.relocate.specs.Values.{patch_of}
use Rattle.relocate.proofs.object_patches.add_sections.Given as goal

abbrev pub invariant-loop-rela : goal.invariant-loop-rela
invariant-loop-rela l = record {
  patches :
      l.patches.items ++ map (patch_of (all_valued l.valued) (where_of l.valued)) (relocations_of_relas l.valued.number (valued_object l.valued) (drop l.rela-index l.relas))
      ≡ l.fn.patches.items ++ map (patch_of (all_valued l.valued) (where_of l.valued)) (relocations_of_relas l.valued.number (valued_object l.valued) l.relas);
  leaves :
      LeavesToFit (all_valued l.valued) (where_of l.valued) (relocations_of_relas l.valued.number (valued_object l.valued) l.relas)
      (relocations_of_relas l.valued.number (valued_object l.valued) (drop l.rela-index l.relas));
}

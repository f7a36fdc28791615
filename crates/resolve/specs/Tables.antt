-- What is kept of the objects whose names are resolved.
use Rattle.std.specs.Prelude.{Bool, ℕ, List}
use Rattle.std.specs.BTreeMap.{BTreeMap}
use Rattle.std.specs.BTreeSet.{BTreeSet}
use Rattle.std.specs.Borrow.{Bor}
use Rattle.elf_model.specs.declared.references.SymbolRef.{SymbolRef}
use Rattle.search.specs.Loads.{LoadedPlan}
use Rattle.resolve.specs.Blocks.{AreBlocks}
use Rattle.resolve.specs.Defined.{AreChosen, AreDefined}
use Rattle.resolve.specs.Outputs.{AreOutputs}
use Rattle.resolve.specs.OutputSections.{AreOutputSections}
use Rattle.resolve.specs.Places.{ArePlaces}
use Rattle.resolve.specs.Threads.{AreThreads}
use Rattle.resolve.specs.declared.blocks.Block.{Block}
use Rattle.resolve.specs.declared.output_sections.OutputSections.{OutputSections}

-- the numbers of the definitions and which of them are thread-local, their indices by the numbers of names, the common blocks,
-- and the output names and the output sections of kept sections
pub record AreTables (l : LoadedPlan) (chosen : List SymbolRef) (threads : List Bool) (places : List ℕ) (listed : List Block) (index : BTreeMap (Bor (List ℕ)) Block) (names : BTreeSet (Bor (List ℕ))) (sections : OutputSections) : Type 0 where
  pub defined : AreDefined l.objects
  pub chosen_are : AreChosen l.objects chosen
  pub threads_are : AreThreads l.objects threads
  pub placed : ArePlaces l places
  pub blocks : AreBlocks l.objects listed index
  pub outputs : AreOutputs l.objects names
  pub sections_are : AreOutputSections l.objects sections

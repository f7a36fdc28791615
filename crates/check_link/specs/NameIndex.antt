-- The definitions and the common blocks of objects, and the indexes of both by their names.
use Rattle.std.specs.Prelude.{◌≡◌, ℕ, List}
use Rattle.std.specs.Borrow.{Bor}
use Rattle.std.specs.BTreeMap.{BTreeMap}
use Rattle.elf_model.specs.Link.ChosenSymbols.{definitions}
use Rattle.elf_model.specs.Link.Commons.{block_named, blocks}
use Rattle.elf_model.specs.Link.Loading.{LoadedObject}
use Rattle.elf_model.specs.Link.Resolution.{SymbolOf}
use Rattle.check_load.specs.Numbered.{AreNumbered}
use Rattle.check_load.specs.declared.loaded.Loaded.{Loaded}
use Rattle.check_link.specs.Chosen.{AreChosen, IsOwn, IsSized}
use Rattle.check_link.specs.Commons.{block_in}
use Rattle.check_link.specs.Views.{block_views}
use Rattle.check_link.specs.declared.chosen_definitions.Chosen.{Chosen}
use Rattle.check_link.specs.declared.things.Block as code

-- an index has for each name its block
abbrev pub IsBlockIndex : List LoadedObject → BTreeMap (Bor (List ℕ)) code.Block → Type 0
IsBlockIndex objects index = (name : List ℕ) → block_in index name ≡ block_named objects name

-- the definitions and the blocks of objects, and indexes of the chosen definitions and of the blocks
pub record AreNames (loaded : List Loaded) (objects : List LoadedObject) (defined : List SymbolOf) (chosen : Chosen) (found : List code.Block) (index : BTreeMap (Bor (List ℕ)) code.Block) : Type 0 where
  pub definitions_are : defined ≡ definitions objects
  pub numbered : AreNumbered chosen.names loaded
  pub sized : IsSized chosen
  pub chosen_are : AreChosen objects defined chosen
  pub own : IsOwn defined chosen
  pub blocks_are : block_views found ≡ blocks objects
  pub indexed : IsBlockIndex objects index

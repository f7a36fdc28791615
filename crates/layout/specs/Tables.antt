-- The tables of the own layout of objects from a base on.
use Rattle.std.specs.Prelude.{◌≡◌, ℕ, List}
use Rattle.std.specs.BTreeMap.{BTreeMap}
use Rattle.std.specs.Borrow.{Bor}
use Rattle.elf_model.specs.Link.Commons.{block_named}
use Rattle.elf_model.specs.Link.Loading.{LoadedObject}
use Rattle.resolve.specs.Blocks.{block_in}
use Rattle.resolve.specs.declared.blocks.Block.{Block}
use Rattle.layout.specs.Placements.{IsPlacement}
use Rattle.placing.specs.PlaceViews.{place_views}
use Rattle.layout.specs.declared.placement.Tables.{Tables}

abbrev pub AreTables : ℕ → List LoadedObject → Tables → Type 0
AreTables base objects t = IsPlacement base objects (place_views t.places.items) t.loaded t.segments.items t.thread_header t.addresses.items t.bounds

-- an index finds the common blocks of objects by their names
abbrev pub IsNamed : List LoadedObject → BTreeMap (Bor (List ℕ)) Block → Type 0
IsNamed objects index = (name : List ℕ) → block_in index name ≡ block_named objects name

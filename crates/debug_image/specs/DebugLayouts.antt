-- What a layout of debug data as the code has it is of.
use Rattle.std.specs.Prelude.{◌≡◌, ◌%◌, ◌^◌, Some}
use Rattle.std.specs.List.{slice_get}
use Rattle.elf_model.specs.Link.Loading.{LoadedObject}
use Rattle.elf_model.specs.Link.Placement.{Placed, got_start}
use Rattle.elf_model.specs.Link.Meaning.{meaning_size}
use Rattle.elf_model.specs.Link.Relocation.{Relocation, definition_of, relocation_of}
use Rattle.elf_model.specs.Link.Resolution.{SymbolOf}
use Rattle.elf_model.specs.declared.records.Rela.{Rela}
use Rattle.std.specs.Prelude.{List, option_map, unwrap_or}
use Rattle.placing.specs.PlaceViews.{place_view}
use Rattle.layout.specs.Placements.{Basis}
use Rattle.relocate.specs.Values.{pointer_in, where_in}
use Rattle.search.specs.Views.{loaded_view}
use Rattle.debug_image.specs.DataIndexes.{AreIndexes}
use Rattle.debug_image.specs.DebugPlaces.{AreDataPlaces, AreNameUses, IsUseOf, basis_at, data_at}
use Rattle.debug_image.specs.DebugValues.{Data, used_value}
use Rattle.debug_image.specs.DebugViews.{row_views}
use Rattle.debug_image.specs.KeptTables.{AreStandIns}
use Rattle.debug_image.specs.Symbols.{thread_start_of}
use Rattle.debug_image.specs.declared.data_places.Used.{Used}
use Rattle.debug_image.specs.declared.debug_data.DebugData.{DebugData}
use Rattle.debug_image.specs.declared.debug_values.DataLayout.{DataLayout}
use Rattle.debug_image.specs.declared.debug_values.Here.{Here}

-- debug data that were found in objects
pub record IsFound (objects : List LoadedObject) (d : DebugData) : Type 0 where
  pub index : AreIndexes objects (row_views d.rows.items) d.index.items
  pub stand_ins : AreStandIns objects d.stand_ins.items

abbrev pub basis_of : DataLayout → Basis
basis_of l = basis_at l.places

abbrev pub data_in : DataLayout → Data
data_in l = data_at l.places

-- all is of the objects that are laid out, of lawful kinds
pub record IsDataLayout (l : DataLayout) : Type 0 where
  pub places : AreDataPlaces l.places
  pub loaded : l.loaded.now.objects ≡ (basis_of l).objects
  pub names : AreNameUses (data_in l) l.loaded.now.names l.names.items
  pub pointer : l.pointer ≡ pointer_in (where_in (basis_of l))
  pub threads : l.thread_start ≡ thread_start_of (basis_of l).base (basis_of l).objects
  pub got : l.got ≡ got_start (where_in (basis_of l)).got % 2 ^ 64

-- a section that is relocated, and its object
abbrev pub object_here : Here → LoadedObject
object_here h = loaded_view h.loaded.now

abbrev pub placed_here : Here → Placed
placed_here h = place_view h.place.now

abbrev pub IsHere : DataLayout → Here → Type 0
IsHere l h = slice_get (basis_of l).objects h.place.now.piece.object ≡ Some (object_here h)

abbrev pub relocation_here : Here → Rela → Relocation
relocation_here h r = relocation_of h.place.now.piece.object (object_here h) h.place.now.piece.section r

-- what an entry uses, by its symbol: what that stands for, and its size; and so with the value 0 for symbol 0
abbrev pub IsDefined : DataLayout → SymbolOf → Used → Type 0
IsDefined l s u = IsUseOf (data_in l) (definition_of (data_in l).objects s) u

pub record IsUsed (l : DataLayout) (s : SymbolOf) (u : Used) : Type 0 where
  pub value : u.value ≡ used_value (data_in l) s.number (definition_of (data_in l).objects s)
  pub size : u.size ≡ unwrap_or (option_map meaning_size (definition_of (data_in l).objects s)) 0 % 2 ^ 64

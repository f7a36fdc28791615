-- Where things are that debug data speak of, as the code has them.
use Rattle.std.specs.Prelude.{◌≡◌, ℕ, ◌%◌, ◌^◌, List, [], Option, Some, length, option_map, slice_index_or, unwrap_or}
use Rattle.std.specs.List.{slice_get}
use Rattle.elf_model.specs.Link.Meaning.{Meaning, meaning, meaning_size}
use Rattle.elf_model.specs.Link.Pieces.{AreLawfulKinds}
use Rattle.layout.specs.Placements.{Basis}
use Rattle.search.specs.Views.{loaded_views}
use Rattle.debug_image.specs.DataIndexes.{AreIndexes}
use Rattle.debug_image.specs.DebugValues.{Data, definition_value}
use Rattle.debug_image.specs.DebugViews.{row_views}
use Rattle.debug_image.specs.KeptTables.{AreStandIns}
use Rattle.debug_image.specs.declared.data_places.DataPlaces.{DataPlaces}
use Rattle.debug_image.specs.declared.data_places.Used.{Used}

abbrev pub basis_at : DataPlaces → Basis
basis_at p = p.placement.now

abbrev pub data_at : DataPlaces → Data
data_at p = record { base = (basis_at p).base; objects = (basis_at p).objects; rows = row_views p.rows.now }

-- all is of the objects that are laid out, of lawful kinds
pub record AreDataPlaces (p : DataPlaces) : Type 0 where
  pub objects : (basis_at p).objects ≡ loaded_views p.objects.now
  pub kinds : AreLawfulKinds (basis_at p).objects
  pub index : AreIndexes (basis_at p).objects (row_views p.rows.now) p.index.now
  pub stand_ins : AreStandIns (basis_at p).objects p.stand_ins.now

-- what an entry uses: what its definition stands for, and that one's size; what entries use that name symbols of names, by the numbers of these
pub record IsUseOf (d : Data) (m : Option Meaning) (u : Used) : Type 0 where
  pub value : u.value ≡ definition_value d m
  pub size : u.size ≡ unwrap_or (option_map meaning_size m) 0 % 2 ^ 64

pub record AreNameUses (d : Data) (names : List (List ℕ)) (uses : List Used) : Type 0 where
  pub count : length uses ≡ length names
  pub each : (n : ℕ) (u : Used) → slice_get uses n ≡ Some u → IsUseOf d (meaning d.objects (slice_index_or names n [])) u

-- What a placement is of, and what it keeps.
use Rattle.std.specs.Prelude.{◌≡◌, ℕ, List, Option, find, length, option_map}
use Rattle.std.specs.Global.{Vec}
use Rattle.elf_model.specs.Link.Loading.{AreObjects, LoadedObject}
use Rattle.elf_model.specs.Own.OwnLayout.{IsNotTooLarge, got_number, own_laid_out, own_loaded, own_placed, own_segments}
use Rattle.elf_model.specs.Link.Placement.{Placed, is_of_section}
use Rattle.elf_model.specs.declared.records.ProgramHeader.{ProgramHeader}
use Rattle.layout.specs.Addresses.{entry}
use Rattle.layout.specs.PieceParts.{AreBounds}
use Rattle.layout.specs.Threads.{header_in}
use Rattle.layout.specs.declared.bounds.Bounds.{Bounds}

-- the address from which objects are laid out, and the objects
pub record Basis : Type 0 where
  pub base : ℕ
  pub objects : List LoadedObject

-- the places, how many memory has room for, the segments, the header of thread-local storage, the addresses and the bounds of the own layout
pub record IsPlacement (base : ℕ) (objects : List LoadedObject) (places : List Placed) (loaded : ℕ) (segments : List ProgramHeader) (header : Option ProgramHeader) (addresses : List (Vec ℕ)) (bounds : Bounds) : Type 0 where
  pub places_are : places ≡ own_placed base objects
  pub loaded_are : loaded ≡ length (own_loaded base objects)
  pub segments_are : segments ≡ own_segments base objects
  pub header_is : header ≡ header_in base (own_placed base objects)
  pub addresses_are : (o s : ℕ) → entry addresses o s ≡ option_map (λ q. q.at) (find (is_of_section o s) (own_laid_out base objects))
  pub bounds_are : AreBounds (got_number objects) (own_placed base objects) bounds

-- what is laid out are objects that readers accept, and their layout isn't too large
pub record IsLaidOut (base : ℕ) (objects : List LoadedObject) : Type 0 where
  pub objects_are : AreObjects objects
  pub fits : IsNotTooLarge base objects

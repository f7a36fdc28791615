-- A layout, as it is made: the pieces at their addresses and the segments that hold them.
use Rattle.std.specs.Prelude.{◌≡◌, ℕ, List, [], ◌∷◌, length}
use Rattle.elf_model.specs.Link.Loading.{LoadedObject}
use Rattle.elf_model.specs.Own.OwnLayout.{IsNotTooLarge, code_start, data_start, own_code, own_data, own_loaded, own_placed, own_read_only, own_segments, read_only_start, segment}
use Rattle.elf_model.specs.Link.Pieces.{Piece}
use Rattle.placing.specs.Limits.{AreInLimit}
use Rattle.placing.specs.PlaceViews.{place_views}
use Rattle.layout.specs.Threads.{header_in}
use Rattle.placing.specs.declared.faults.LayoutFault.{LayoutFault}
use Rattle.placing.specs.declared.faults.LayoutFault.TheVariants as error
use Rattle.layout.specs.declared.placed_pieces.Laid.{Laid}
use Rattle.layout.specs.declared.placed_pieces.Layout.{Layout}

-- where the pieces of RW that aren't thread-local begin: with RW, or behind thread-local ones with bytes
abbrev pub plain_start : List Piece → ℕ → ℕ → ℕ
plain_start [] start end = start
plain_start (p ∷ ps) start end = end

pub record IsLaid (base : ℕ) (objects : List LoadedObject) (l : Laid) : Type 0 where
  pub places : place_views l.places.items ≡ own_placed base objects
  pub loaded : l.loaded ≡ length (own_loaded base objects)
  pub read_only : l.read_only ≡ segment base 4 base (read_only_start base objects) (own_read_only base objects)
  pub code : l.code ≡ segment base 5 (code_start base objects) (code_start base objects) (own_code base objects)
  pub writable : l.writable ≡ segment base 6 (data_start base objects) (data_start base objects) (own_data base objects)
  pub limit : AreInLimit (own_placed base objects)

pub record IsLayout (base : ℕ) (objects : List LoadedObject) (l : Layout) : Type 0 where
  pub places : place_views l.places.items ≡ own_placed base objects
  pub loaded : l.loaded ≡ length (own_loaded base objects)
  pub segments : l.segments.items ≡ own_segments base objects
  pub thread_header : l.thread_header ≡ header_in base (own_placed base objects)

-- why there is no layout
abbrev pub LayoutFails : ℕ → List LoadedObject → LayoutFault → Type 0
LayoutFails base objects error.Memory = Unit {0}
LayoutFails base objects error.TooLarge = ¬ IsNotTooLarge base objects
LayoutFails base objects _ = ⊥

-- What is known of a link that is judged, by the stages in which it becomes known.
use Rattle.std.specs.Prelude.{◌≡◌, ℕ, ◌≤◌, IsPermutation, List, length, take}
use Rattle.std.specs.List.Sorted.{IsNonDecreasingBy}
use Rattle.elf_model.specs.Link.Loading.{LoadedObject}
use Rattle.elf_model.specs.Image.MapRecord.{CommonRow}
use Rattle.elf_model.specs.Link.Pieces.{Piece, kept_sections}
use Rattle.elf_model.specs.Link.Placement.{got_things}
use Rattle.elf_model.specs.Image.RightLink.{Subject, objects_of, placed_of, sections_of, things_of}
use Rattle.elf_model.specs.declared.thing.Thing.{Thing}
use Rattle.check_link.specs.Views.{placed_views}
use Rattle.check_link.specs.declared.things.Placed.{Placed}

-- the objects are loaded
pub record IsLoadedLink (s : Subject) (os : List LoadedObject) (ps : List Piece) (rows : List CommonRow) : Type 0 where
  pub names : os ≡ objects_of s
  pub pieces : ps ≡ kept_sections (objects_of s)
  pub lines : rows ≡ s.map.commons

-- the image is mapped, and what the map places in it is listed, the sections first, and the things by address too
pub record IsPlacedLink (s : Subject) (image : List ℕ) (qs : List Placed) (count : ℕ) (got ts sorted : List Thing) : Type 0 where
  pub memory : image ≡ s.image
  pub placed : placed_views qs ≡ placed_of s
  pub within : count ≤ length qs
  pub sections : placed_views (take count qs) ≡ sections_of s
  pub gots : got ≡ got_things s.map.got
  pub things : ts ≡ things_of s
  pub same : IsPermutation (things_of s) sorted
  pub rising : IsNonDecreasingBy (λ t. t.at) sorted

-- What is known of a link that is judged, by the stages in which it becomes known.
use Rattle.std.specs.Prelude.{◌≡◌, ℕ, ◌≤◌, ◌&&◌, ◌||◌, ◌++◌, Bool, not, List, length, take}
use Rattle.elf_model.specs.Image.MapRecord.{PlaceRow}
use Rattle.elf_model.specs.Link.Loading.{LoadedObject}
use Rattle.elf_model.specs.Link.Pieces.{Piece}
use Rattle.elf_model.specs.declared.link_map.DropLine.{DropLine}
use Rattle.elf_model.specs.declared.thing.Thing.{Thing}
use Rattle.check_link.specs.Views.{placed_views}
use Rattle.check_link.specs.declared.things.Placed.{Placed}
use Rattle.judge_model.specs.Certificates.{is_left_out}
use Rattle.judge_model.specs.Links.{ForeignLink, is_frames, is_mergeable, is_property, objects_of, pieces_of, placed_of, plain_pieces, sections_of}
use Rattle.judge_model.specs.Placed.{things_of}
use Rattle.judge_model.specs.declared.certificate.StretchLine.{StretchLine}

-- the section of a place line
abbrev pub key_of : PlaceRow → DropLine
key_of row = record { object = row.object; section = row.section }

-- a section isn't left out; it has a place line, given the sections that have one, or is neither one that linkers merge nor one of
-- call frames or of notes of properties; it is one that they merged; and one of call frames in their list
abbrev pub is_there : List DropLine → Piece → Bool
is_there drops p = not (is_left_out drops p.object p.section)

abbrev pub is_plain_by : List DropLine → Piece → Bool
is_plain_by keys p = is_left_out keys p.object p.section || not (is_mergeable p || (is_frames p || is_property p))

abbrev pub is_merged_by : List DropLine → Piece → Bool
is_merged_by keys p = is_mergeable p && not (is_left_out keys p.object p.section)

abbrev pub is_framed_by : List DropLine → Piece → Bool
is_framed_by keys p = is_frames p && not (is_left_out keys p.object p.section)

abbrev pub has_own_by : List DropLine → Piece → Bool
has_own_by keys p = is_frames p && is_left_out keys p.object p.section

-- its objects are loaded, and the sections that the image has are known
pub record IsLoadedClaim (l : ForeignLink) (os : List LoadedObject) (drops : List DropLine) (ps : List Piece) : Type 0 where
  pub names : os ≡ objects_of l
  pub drops_are : drops ≡ l.certificate.drops
  pub pieces : ps ≡ pieces_of l

-- the sections that linkers don't edit are at their addresses, and behind them the common blocks that have a line; what the linker
-- filled is known, notes and areas
pub record IsPlacedClaim (l : ForeignLink) (image : List ℕ) (plain : List Piece) (qs : List Placed) (count : ℕ) (filled : List StretchLine) (ts : List Thing) : Type 0 where
  pub memory : image ≡ l.image
  pub plain_are : plain ≡ plain_pieces l
  pub placed : placed_views qs ≡ placed_of l
  pub within : count ≤ length qs
  pub sections : placed_views (take count qs) ≡ sections_of l
  pub filled_is : filled ≡ l.certificate.notes ++ l.certificate.areas
  pub things : ts ≡ things_of l

-- The bytes of sections beside the places of their relocations.
use Rattle.std.specs.Prelude.{◌≡◌, ℕ, ◌+◌, ◌<◌, ◌==◌, Bool, not, List, All, Any, Some, filter, slice_index}
use Rattle.elf_model.specs.Image.MemoryImage.{Encloses, loads}
use Rattle.elf_model.specs.Image.RightLink.{byte_at}
use Rattle.elf_model.specs.Link.Loading.{LoadedObject}
use Rattle.elf_model.specs.Link.Pieces.{load_size}
use Rattle.elf_model.specs.Link.Placement.{Placed}
use Rattle.elf_model.specs.Link.Relocation.{Relocation, relocations}
use Rattle.elf_model.specs.declared.link_map.DropLine.{DropLine}
use Rattle.judge_model.specs.Certificates.{is_left_out}
use Rattle.judge_model.specs.Fields.{IsInPlace, place_start, place_width}
use Rattle.memory_judge.specs.declared.rests.FieldSpan.{FieldSpan}
use Rattle.link_fields.specs.Parts.{Parts}

-- where a relocation's place lies, and whether it relocates a section of its object
abbrev pub span_of : Relocation → FieldSpan
span_of r = record { at = place_start r; width = place_width r }

abbrev pub relocates : ℕ → Relocation → Bool
relocates section r = r.section == section

-- the relocations of sections that aren't left out
abbrev pub is_kept : List DropLine → Relocation → Bool
is_kept drops r = not (is_left_out drops r.object r.section)

abbrev pub kept_in : List DropLine → List LoadedObject → List Relocation
kept_in drops objects = filter (is_kept drops) (relocations objects)

-- byte k of a section isn't in a relocation's place
abbrev pub IsOutside : ℕ → ℕ → ℕ → Relocation → Type 0
IsOutside object section k r = r.object ≡ object → r.section ≡ section → ¬ IsInPlace r k

-- a section that takes up memory lies whole in a segment
pub record LiesWhole (image : List ℕ) (q : Placed) : Type 0 where
  pub encloses : 0 < load_size q.piece → Any (λ h. Encloses h q.at (load_size q.piece)) (loads image)

-- memory holds its bytes beside places
pub record HoldsRestIn (p : Parts) (drops : List DropLine) (q : Placed) : Type 0 where
  pub bytes :
      (k : ℕ) → k < load_size q.piece
      → All (IsOutside q.piece.object q.piece.section k) (kept_in drops p.objects)
      → byte_at p.image (q.at + k) ≡ Some (slice_index q.piece.bytes k)

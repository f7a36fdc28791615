-- The bytes of a section as they are written, in parts.
use Rattle.std.specs.Prelude.{◌≡◌, ℕ, ◌+◌, ◌<◌, List, length, map, slice_index}
use Rattle.std.specs.List.{range_with_len}
use Rattle.elf_model.specs.Link.Loading.{LoadedObject}
use Rattle.elf_model.specs.Link.Pieces.{Piece}
use Rattle.elf_model.specs.Link.Placement.{Where}
use Rattle.elf_model.specs.Link.WantedBytes.{wanted_byte}
use Rattle.elf_model.specs.declared.references.SectionRef.{SectionRef}

-- a piece that is the section with these numbers
pub record IsOfSection (ref : SectionRef) (p : Piece) : Type 0 where
  pub object : p.object ≡ ref.object.0
  pub section : p.section ≡ ref.section

-- bytes that are those of a piece from one on
abbrev pub ArePartOf : Piece → ℕ → List ℕ → Type 0
ArePartOf p from bytes = (k : ℕ) → k < length bytes → slice_index bytes k ≡ slice_index p.bytes (from + k)

-- the wanted bytes of a piece, so many from one on
abbrev pub wanted_run : List LoadedObject → Where → Piece → ℕ → ℕ → List ℕ
wanted_run objects w p from count = map (wanted_byte objects w p) (range_with_len from count)

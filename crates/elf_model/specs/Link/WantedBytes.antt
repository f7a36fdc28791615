-- The byte that is wanted in memory at each place of a piece.
use Rattle.std.specs.Prelude.{ℕ, ◌-◌, List, Option, Some, None, find, slice_index}
use Rattle.byteview.specs.Numbers.{le_bytes}
use Rattle.elf_model.specs.Link.Loading.{LoadedObject}
use Rattle.elf_model.specs.Link.Pieces.{Piece}
use Rattle.elf_model.specs.Link.Placement.{Where}
use Rattle.elf_model.specs.Link.Relocation.{Relocation, is_in_field, relocations, width_of}
use Rattle.elf_model.specs.Link.RelocationValues.{value_of}

-- byte k of a piece: where it lies in a relocation's field, the value's byte there; else the input's, and 0
-- where the input has none
abbrev pub field_byte : List LoadedObject → Where → ℕ → Relocation → ℕ
field_byte objects w k r = slice_index (le_bytes (width_of r) (value_of objects w r)) (k - r.entry.r_offset)

abbrev pub byte_or_field : List LoadedObject → Where → Piece → ℕ → Option Relocation → ℕ
byte_or_field objects w p k None = slice_index p.bytes k
byte_or_field objects w p k (Some r) = field_byte objects w k r

abbrev pub wanted_byte : List LoadedObject → Where → Piece → ℕ → ℕ
wanted_byte objects w p k = byte_or_field objects w p k (find (is_in_field p.object p.section k) (relocations objects))

-- Words on segments and on file parts for this crate's own functions.
use Rattle.std.specs.Prelude.{◌≡◌, ℕ, ◌+◌, ◌<◌, ◌≤◌, true, List, All, slice_index}
use Rattle.elf_model.specs.Image.MemoryImage.{file_end, loads, segment_byte}
use Rattle.elf_model.specs.Link.Placement.{Covers}
use Rattle.elf_model.specs.Image.RightLink.{IsInFilePart, fill_of}
use Rattle.elf_model.specs.declared.records.ProgramHeader.{ProgramHeader}
use Rattle.elf_model.specs.declared.thing.Thing.{Thing}

-- what a segment maps outside of all things is its fill
pub record SegmentFilled (image : List ℕ) (ts : List Thing) (h : ProgramHeader) : Type 0 where
  pub filled :
      (a : ℕ) → h.p_vaddr ≤ a → a < h.p_vaddr + h.p_memsz → All (λ t. ¬ Covers t a) ts
      → segment_byte image h a ≡ fill_of h.p_flags

-- a segment's file part, as a stretch of file offsets
abbrev pub part_of : ProgramHeader → Thing
part_of h = record { at = h.p_offset; size = h.p_filesz; align = 1; rights = 4; in_file = true }

-- the file's bytes in no file part are 0, up to the end of the last one
pub record HasZeroGaps (image : List ℕ) : Type 0 where
  pub gaps : (i : ℕ) → i < file_end (loads image) → All (λ h. ¬ IsInFilePart h i) (loads image) → slice_index image i ≡ 0

-- What a memory keeps of its image, and what a run of it is.
use Rattle.std.specs.Prelude.{◌≡◌, ℕ, ◌+◌, ◌<◌, List, Some, length, slice_index, option_map}
use Rattle.elf_model.specs.Image.MemoryImage.{IsImage, loads, memory_of, thread_blocks}
use Rattle.elf_model.specs.Inputs.Records.{file_header}
use Rattle.elf_model.specs.declared.records.FileHeader.{FileHeader}
use Rattle.elf_model.specs.declared.records.ProgramHeader.{ProgramHeader}

-- the image is one, and what is kept are its header and its segments
pub record IsMemory (image : List ℕ) (header : FileHeader) (segments blocks : List ProgramHeader) : Type 0 where
  pub is_image : IsImage image
  pub header_is : header ≡ file_header image
  pub segments_are : segments ≡ loads image
  pub blocks_are : blocks ≡ thread_blocks image

-- the bytes, then zeros, are what memory has from an address on
pub record IsRun (image : List ℕ) (at len : ℕ) (bytes : List ℕ) (zeros : ℕ) : Type 0 where
  pub whole : length bytes + zeros ≡ len
  pub same :
      (k : ℕ) → k < len → option_map (λ c. c.byte) (memory_of image (at + k)) ≡ Some (slice_index bytes k)

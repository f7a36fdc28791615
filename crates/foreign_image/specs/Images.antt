-- Words on headers for this crate's own functions, and what an image keeps of its file.
use Rattle.std.specs.Prelude.{◌≡◌, ◌⊎◌, ℕ, ◌+◌, ◌*◌, ◌/◌, ◌%◌, ◌<◌, ◌≤◌, List, All, Any, bit_and, length, true}
use Rattle.elf_model.specs.Image.MemoryImage.{loads, loads_in, program_headers, thread_blocks}
use Rattle.elf_model.specs.Inputs.Records.{file_header}
use Rattle.elf_model.specs.declared.constants.TheConstants.{PF_R, PF_W, PF_X}
use Rattle.elf_model.specs.declared.records.FileHeader.{FileHeader}
use Rattle.elf_model.specs.declared.records.ProgramHeader.{ProgramHeader}
use Rattle.judge_model.specs.Headers.{AreLoads, AreTypesRight, IsFileHeader, IsProgram, IsTable, IsTrueOf}

-- a file has the header of a program
pub record HasFileHeader (image : List ℕ) : Type 0 where
  pub long : 64 ≤ length image
  pub file : IsFileHeader (length image) (file_header image)

-- the sizes of records
pub record HasSizes (h : FileHeader) : Type 0 where
  pub header_size : h.e_ehsize ≡ 64
  pub program_header_size : h.e_phentsize ≡ 56
  pub section_header_size : (h.e_shentsize ≡ 64) ⊎ ((h.e_shentsize ≡ 0) × (h.e_shnum ≡ 0))

-- the rights of a segment, and its tail
pub record HasRights (h : ProgramHeader) : Type 0 where
  pub read : bit_and h.p_flags PF_R ≡ PF_R
  pub rights : bit_and h.p_flags (PF_R + (PF_W + PF_X)) ≡ h.p_flags
  pub tail : h.p_filesz < h.p_memsz → (bit_and h.p_flags PF_W ≡ PF_W) ⊎ ((h.p_vaddr + h.p_filesz) % 4096 ≡ 0)

-- a segment ends before the first page of another begins
abbrev pub PagesBefore : ProgramHeader → ProgramHeader → Type 0
PagesBefore g h = g.p_vaddr + g.p_memsz ≤ h.p_vaddr / 4096 * 4096

-- a segment has the file's part up to an offset, from the program headers on
abbrev pub HoldsTable : ℕ → ProgramHeader → Type 0
HoldsTable end g = (g.p_offset ≤ 64) × (end ≤ g.p_offset + g.p_filesz)

-- the headers of a file with these program headers are those of a program
pub record AreGoodHeaders (len : ℕ) (hs : List ProgramHeader) : Type 0 where
  pub types : AreTypesRight hs
  pub loads_are : AreLoads len (loads_in hs)
  pub parts : All (IsTrueOf (loads_in hs)) hs
  pub table : All IsTable hs
  pub mapped : Any (HoldsTable (64 + 56 * length hs)) (loads_in hs)

-- what an image keeps
pub record IsForeign (image : List ℕ) (header : FileHeader) (hs segments blocks : List ProgramHeader) : Type 0 where
  pub program : IsProgram image
  pub header_is : header ≡ file_header image
  pub headers_are : hs ≡ program_headers image
  pub segments_are : segments ≡ loads image
  pub blocks_are : blocks ≡ thread_blocks image

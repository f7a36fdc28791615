-- What section headers say of memory, clause by clause.
use Rattle.std.specs.Prelude.{◌≡◌, ℕ, ◌+◌, ◌*◌, ◌<◌, ◌≤◌, true, false, List, Any, bit_and, length}
use Rattle.elf_model.specs.Image.MemoryImage.{loads}
use Rattle.elf_model.specs.Inputs.ObjectFile.{has_no_bytes}
use Rattle.elf_model.specs.Inputs.Records.{file_header}
use Rattle.elf_model.specs.Link.Pieces.{is_nobits}
use Rattle.elf_model.specs.declared.records.ProgramHeader.{ProgramHeader}
use Rattle.elf_model.specs.declared.records.SectionHeader.{SectionHeader}
use Rattle.judge_model.specs.Placed.{needed_rights}
use Rattle.judge_model.specs.Tables.{is_in_memory, section_count}

-- the section header table lies inside the file
abbrev pub HasTable : List ℕ → Type 0
HasTable image = (file_header image).e_shoff + 64 * section_count image ≤ length image

-- where a section has bytes they are a segment's there
pub record HasFilePart (h : SectionHeader) (g : ProgramHeader) : Type 0 where
  pub part :
      is_nobits h ≡ false →
      (h.sh_offset + g.p_vaddr ≡ g.p_offset + h.sh_addr) × (h.sh_offset + h.sh_size ≤ g.p_offset + g.p_filesz)

-- a section is in a segment with its rights
pub record IsMapped (h : SectionHeader) (g : ProgramHeader) : Type 0 where
  pub from : g.p_vaddr ≤ h.sh_addr
  pub to : h.sh_addr + h.sh_size ≤ g.p_vaddr + g.p_memsz
  pub rights : bit_and g.p_flags (needed_rights h) ≡ needed_rights h
  pub file : HasFilePart h g

-- one that takes up memory is in a segment; the bytes of one that has some are in the file
pub record LiesMapped (hs : List ProgramHeader) (h : SectionHeader) : Type 0 where
  pub mapped : is_in_memory h ≡ true → 0 < h.sh_size → Any (IsMapped h) hs

pub record LiesInFile (len : ℕ) (h : SectionHeader) : Type 0 where
  pub in_file : has_no_bytes h ≡ false → h.sh_offset + h.sh_size ≤ len

pub record IsTrueIn (image : List ℕ) (h : SectionHeader) : Type 0 where
  pub mapped : LiesMapped (loads image) h
  pub in_file : LiesInFile (length image) h

-- The records of ELF-64 as values of bytes, and their spellings. Each field is the number at its place, least significant byte first.
use Rattle.std.specs.Prelude.{ℕ, ◌<◌, ◌≡◌, ◌^◌, ◌++◌, List, length}
use Rattle.std.specs.Int.{w64, cast_unsigned}
use Rattle.std.specs.Int.RustNames.{FitsSigned}
use Rattle.byteview.specs.Numbers.{le_at, le_bytes, part, signed_at}
use Rattle.elf_model.specs.declared.records.FileHeader.{FileHeader}
use Rattle.elf_model.specs.declared.records.ProgramHeader.{ProgramHeader}
use Rattle.elf_model.specs.declared.records.Rela.{Rela}
use Rattle.elf_model.specs.declared.records.SectionHeader.{SectionHeader}
use Rattle.elf_model.specs.declared.records.Symbol.{Symbol}

-- the file header that the first 64 bytes spell (System V gABI 4, "ELF Header")
abbrev pub file_header : List ℕ → FileHeader
file_header bytes = record {
  e_ident = part bytes 0 16;
  e_type = le_at 2 bytes 16;
  e_machine = le_at 2 bytes 18;
  e_version = le_at 4 bytes 20;
  e_entry = le_at 8 bytes 24;
  e_phoff = le_at 8 bytes 32;
  e_shoff = le_at 8 bytes 40;
  e_flags = le_at 4 bytes 48;
  e_ehsize = le_at 2 bytes 52;
  e_phentsize = le_at 2 bytes 54;
  e_phnum = le_at 2 bytes 56;
  e_shentsize = le_at 2 bytes 58;
  e_shnum = le_at 2 bytes 60;
  e_shstrndx = le_at 2 bytes 62;
}

-- the section header that the first 64 bytes spell (System V gABI 4, "Sections")
abbrev pub section_header : List ℕ → SectionHeader
section_header bytes = record {
  sh_name = le_at 4 bytes 0;
  sh_type = le_at 4 bytes 4;
  sh_flags = le_at 8 bytes 8;
  sh_addr = le_at 8 bytes 16;
  sh_offset = le_at 8 bytes 24;
  sh_size = le_at 8 bytes 32;
  sh_link = le_at 4 bytes 40;
  sh_info = le_at 4 bytes 44;
  sh_addralign = le_at 8 bytes 48;
  sh_entsize = le_at 8 bytes 56;
}

-- the symbol that the first 24 bytes spell (System V gABI 4, "Symbol Table")
abbrev pub symbol : List ℕ → Symbol
symbol bytes = record {
  st_name = le_at 4 bytes 0;
  st_info = le_at 1 bytes 4;
  st_other = le_at 1 bytes 5;
  st_shndx = le_at 2 bytes 6;
  st_value = le_at 8 bytes 8;
  st_size = le_at 8 bytes 16;
}

-- the relocation entry that the first 24 bytes spell, its addend in two's complement (System V gABI 4, "Relocation")
abbrev pub rela : List ℕ → Rela
rela bytes = record {
  r_offset = le_at 8 bytes 0;
  r_info = le_at 8 bytes 8;
  r_addend = signed_at bytes 16;
}

-- the program header that the first 56 bytes spell (System V gABI 5, "Program Header")
abbrev pub program_header : List ℕ → ProgramHeader
program_header bytes = record {
  p_type = le_at 4 bytes 0;
  p_flags = le_at 4 bytes 4;
  p_offset = le_at 8 bytes 8;
  p_vaddr = le_at 8 bytes 16;
  p_paddr = le_at 8 bytes 24;
  p_filesz = le_at 8 bytes 32;
  p_memsz = le_at 8 bytes 40;
  p_align = le_at 8 bytes 48;
}

-- the 64 bytes that spell a file header
unfoldable pub file_header_bytes : FileHeader → List ℕ
file_header_bytes h =
    h.e_ident ++ le_bytes 2 h.e_type ++ le_bytes 2 h.e_machine ++ le_bytes 4 h.e_version ++ le_bytes 8 h.e_entry ++ le_bytes 8 h.e_phoff
    ++ le_bytes 8 h.e_shoff ++ le_bytes 4 h.e_flags ++ le_bytes 2 h.e_ehsize ++ le_bytes 2 h.e_phentsize ++ le_bytes 2 h.e_phnum
    ++ le_bytes 2 h.e_shentsize ++ le_bytes 2 h.e_shnum ++ le_bytes 2 h.e_shstrndx

-- the 64 bytes that spell a section header
unfoldable pub section_header_bytes : SectionHeader → List ℕ
section_header_bytes h =
    le_bytes 4 h.sh_name ++ le_bytes 4 h.sh_type ++ le_bytes 8 h.sh_flags ++ le_bytes 8 h.sh_addr ++ le_bytes 8 h.sh_offset
    ++ le_bytes 8 h.sh_size ++ le_bytes 4 h.sh_link ++ le_bytes 4 h.sh_info ++ le_bytes 8 h.sh_addralign ++ le_bytes 8 h.sh_entsize

-- the 24 bytes that spell a symbol
unfoldable pub symbol_bytes : Symbol → List ℕ
symbol_bytes s =
    le_bytes 4 s.st_name ++ le_bytes 1 s.st_info ++ le_bytes 1 s.st_other ++ le_bytes 2 s.st_shndx ++ le_bytes 8 s.st_value ++ le_bytes 8 s.st_size

-- the 24 bytes that spell a relocation entry
unfoldable pub rela_bytes : Rela → List ℕ
rela_bytes r = le_bytes 8 r.r_offset ++ le_bytes 8 r.r_info ++ le_bytes 8 (cast_unsigned w64 r.r_addend)

-- the 56 bytes that spell a program header
unfoldable pub program_header_bytes : ProgramHeader → List ℕ
program_header_bytes h =
    le_bytes 4 h.p_type ++ le_bytes 4 h.p_flags ++ le_bytes 8 h.p_offset ++ le_bytes 8 h.p_vaddr ++ le_bytes 8 h.p_paddr
    ++ le_bytes 8 h.p_filesz ++ le_bytes 8 h.p_memsz ++ le_bytes 8 h.p_align

-- the numbers of a record are within what its bytes hold, as they are in every record of the program
pub record FitsFileHeader (h : FileHeader) : Type 0 where
  pub e_ident : length h.e_ident ≡ 16
  pub e_type : h.e_type < 2 ^ 16
  pub e_machine : h.e_machine < 2 ^ 16
  pub e_version : h.e_version < 2 ^ 32
  pub e_entry : h.e_entry < 2 ^ 64
  pub e_phoff : h.e_phoff < 2 ^ 64
  pub e_shoff : h.e_shoff < 2 ^ 64
  pub e_flags : h.e_flags < 2 ^ 32
  pub e_ehsize : h.e_ehsize < 2 ^ 16
  pub e_phentsize : h.e_phentsize < 2 ^ 16
  pub e_phnum : h.e_phnum < 2 ^ 16
  pub e_shentsize : h.e_shentsize < 2 ^ 16
  pub e_shnum : h.e_shnum < 2 ^ 16
  pub e_shstrndx : h.e_shstrndx < 2 ^ 16

pub record FitsSectionHeader (h : SectionHeader) : Type 0 where
  pub sh_name : h.sh_name < 2 ^ 32
  pub sh_type : h.sh_type < 2 ^ 32
  pub sh_flags : h.sh_flags < 2 ^ 64
  pub sh_addr : h.sh_addr < 2 ^ 64
  pub sh_offset : h.sh_offset < 2 ^ 64
  pub sh_size : h.sh_size < 2 ^ 64
  pub sh_link : h.sh_link < 2 ^ 32
  pub sh_info : h.sh_info < 2 ^ 32
  pub sh_addralign : h.sh_addralign < 2 ^ 64
  pub sh_entsize : h.sh_entsize < 2 ^ 64

pub record FitsSymbol (s : Symbol) : Type 0 where
  pub st_name : s.st_name < 2 ^ 32
  pub st_info : s.st_info < 2 ^ 8
  pub st_other : s.st_other < 2 ^ 8
  pub st_shndx : s.st_shndx < 2 ^ 16
  pub st_value : s.st_value < 2 ^ 64
  pub st_size : s.st_size < 2 ^ 64

pub record FitsRela (r : Rela) : Type 0 where
  pub r_offset : r.r_offset < 2 ^ 64
  pub r_info : r.r_info < 2 ^ 64
  pub r_addend : FitsSigned w64 r.r_addend

pub record FitsProgramHeader (h : ProgramHeader) : Type 0 where
  pub p_type : h.p_type < 2 ^ 32
  pub p_flags : h.p_flags < 2 ^ 32
  pub p_offset : h.p_offset < 2 ^ 64
  pub p_vaddr : h.p_vaddr < 2 ^ 64
  pub p_paddr : h.p_paddr < 2 ^ 64
  pub p_filesz : h.p_filesz < 2 ^ 64
  pub p_memsz : h.p_memsz < 2 ^ 64
  pub p_align : h.p_align < 2 ^ 64

-- The fields of a file header that speak of section headers; and the image that a debuggable image begins with: its bytes up to the end of the last file part, in whose file header the three
-- fields that speak of section headers are 0.
use Rattle.std.specs.Prelude.{ℕ, ◌+◌, ◌&&◌, cond, List, ◌++◌, drop, length, max, min, nat_le, nat_lt, take}
use Rattle.elf_model.specs.Image.MemoryImage.{file_end, headers_size, is_load, loads}
use Rattle.elf_model.specs.Inputs.Records.{file_header, file_header_bytes}
use Rattle.elf_model.specs.declared.records.FileHeader.{FileHeader}
use Rattle.elf_model.specs.declared.records.ProgramHeader.{ProgramHeader}

abbrev pub with_sections : ℕ → ℕ → FileHeader → FileHeader
with_sections at last h = record h { e_shoff = at; e_shnum = last + 1; e_shstrndx = last }

abbrev pub cleared : FileHeader → FileHeader
cleared h = record h { e_shoff = 0; e_shnum = 0; e_shstrndx = 0 }

-- bytes that are too short for their headers stay what they are
abbrev pub plain_of : List ℕ → List ℕ
plain_of bytes =
    cond (nat_le (headers_size bytes) (length bytes))
    (file_header_bytes (cleared (file_header bytes)) ++ drop 64 (take (file_end (loads bytes)) bytes))
    bytes

-- where the last file part ends of segments and one more, in a file of a length
abbrev pub end_with : ProgramHeader → ℕ → ℕ → ℕ
end_with h len end = cond (is_load h && nat_lt 0 h.p_filesz) (max end (min len (h.p_offset + h.p_filesz))) end

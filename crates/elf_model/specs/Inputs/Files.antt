-- The files and the words of a link, as byte lists.
use Rattle.std.specs.Prelude.{ℕ, List, String, map, string_bytes}
use Rattle.std.specs.declared.alloc.Global.{Global}
use Rattle.elf_model.specs.declared.input_file.InputFile.{InputFile}

-- a file as it was read: its name and its bytes
pub record File : Type 0 where
  pub name : List ℕ
  pub bytes : List ℕ

abbrev pub file_of : InputFile → File
file_of f = record { name = string_bytes f.name; bytes = f.bytes.items }

abbrev pub files_of : List InputFile → List File
files_of fs = map file_of fs

-- the words of a command, as byte lists
abbrev pub words_of : List (String Global) → List (List ℕ)
words_of ws = map string_bytes ws

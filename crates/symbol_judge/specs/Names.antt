-- The names of entries of a symbol table.
use Rattle.std.specs.Prelude.{ℕ, ◌≡◌, Bool, List, true}
use Rattle.std.specs.Str.{bytes_eq}
use Rattle.byteview.specs.Numbers.{text}
use Rattle.check_load.specs.NameNumbers.{is_among}
use Rattle.elf_model.specs.declared.records.Symbol.{Symbol}

-- a name is that of an entry, by a string table
abbrev pub is_name_of : List ℕ → List ℕ → Symbol → Bool
is_name_of strings name e = bytes_eq name (text strings e.st_name)

-- the name at an offset is among names
pub record IsNoted (strings : List ℕ) (names : List (List ℕ)) (offset : ℕ) : Type 0 where
  pub noted : is_among names (text strings offset) ≡ true

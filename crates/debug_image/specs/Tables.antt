-- What stands behind the file part of a debuggable image: .symtab, .strtab and .shstrtab, and the section headers (System V
-- gABI 4, "Sections", "String Table", "Symbol Table"; the order and the offsets are the profile's).
use Rattle.std.specs.Prelude.{ℕ, ◌+◌, ◌-◌, ◌%◌, ◌^◌, ◌<◌, List, [], ◌∷◌, ◌++◌, codes, length, map, replicate}
use Rattle.std.specs.List.{flat_map}
use Rattle.elf_model.specs.Own.ImageFile.{HeaderFields}
use Rattle.elf_model.specs.Inputs.ObjectFile.{null_section, null_symbol}
use Rattle.elf_model.specs.Link.Placement.{round_up}
use Rattle.elf_model.specs.Inputs.Records.{section_header_bytes, symbol_bytes}
use Rattle.elf_model.specs.Image.SymbolTable.{ended, strings_header}
use Rattle.elf_model.specs.declared.records.SectionHeader.{SectionHeader}
use Rattle.elf_model.specs.declared.records.Symbol as entry
use Rattle.image_write.specs.Tables.{symbols_header}

-- a symbol: its name, and its entry but for st_name
pub record Row : Type 0 where
  pub name : List ℕ
  pub entry : entry.Symbol

-- The spellings of what has names, each by the offset of its name; the names are one behind the other from an offset on, each with
-- its NUL.
abbrev pub spelled_from : {A : Type 0} → (A → List ℕ) → (ℕ → A → List ℕ) → ℕ → List A → List ℕ
spelled_from name spelling at [] = []
spelled_from name spelling at (x ∷ xs) = spelling at x ++ spelled_from name spelling (at + (length (name x) + 1)) xs

-- The contents of .symtab and .strtab: the entry of number 0, then those of rows, each with the offset of its name, which are one
-- behind the other from 1 on.
abbrev pub entry_at : ℕ → Row → entry.Symbol
entry_at at r = record r.entry { st_name = at % 2 ^ 32 }

abbrev pub entries_from : ℕ → List Row → List ℕ
entries_from = spelled_from (λ r. r.name) (λ at r. symbol_bytes (entry_at at r))

abbrev pub row_names : List Row → List ℕ
row_names rs = flat_map (λ r. ended r.name) rs

abbrev pub symtab : List Row → List ℕ
symtab rs = symbol_bytes null_symbol ++ entries_from 1 rs

abbrev pub strtab : List Row → List ℕ
strtab rs = 0 ∷ row_names rs

-- The section headers: that of number 0, then those of rows, each with the offset of its name in .shstrtab.
pub record HeaderRow : Type 0 where
  pub title : List ℕ
  pub header : SectionHeader

abbrev pub header_at : ℕ → HeaderRow → SectionHeader
header_at at r = record r.header { sh_name = at % 2 ^ 32 }

abbrev pub headers_from : ℕ → List HeaderRow → List ℕ
headers_from = spelled_from (λ r. r.title) (λ at r. section_header_bytes (header_at at r))

abbrev pub headers : List HeaderRow → List ℕ
headers rs = section_header_bytes null_section ++ headers_from 1 rs

-- .shstrtab: the names of the sections, and those of the three tables.
abbrev pub table_titles : List ℕ
table_titles = ended (codes ".symtab") ++ (ended (codes ".strtab") ++ ended (codes ".shstrtab"))

abbrev pub row_titles : List HeaderRow → List ℕ
row_titles rs = flat_map (λ r. ended r.title) rs

abbrev pub titles : List HeaderRow → List ℕ
titles rs = 0 ∷ (row_titles rs ++ table_titles)

-- The tables behind an image: .symtab, .strtab and .shstrtab, how many of the symbols are LOCAL, with that of number 0, and the
-- sections that hold the image.
pub record Tables : Type 0 where
  pub symbols : List ℕ
  pub names : List ℕ
  pub titles : List ℕ
  pub locals : ℕ
  pub sections : List HeaderRow

-- their numbers can be said: there are fewer than 65,280 sections, and less than 2^32 bytes of each table
pub record IsSmall (t : Tables) : Type 0 where
  pub sections : length t.sections + 4 < 0xff00
  pub symbols : length t.symbols < 2 ^ 32
  pub names : length t.names < 2 ^ 32
  pub titles : length t.titles < 2 ^ 32
  pub locals : t.locals < 2 ^ 32

-- Where they begin behind an image whose last file part ends at e: .symtab and the headers at multiples of 8.
abbrev pub symtab_at : ℕ → ℕ
symtab_at e = round_up 8 e

abbrev pub strtab_at : ℕ → Tables → ℕ
strtab_at e t = symtab_at e + length t.symbols

abbrev pub shstrtab_at : ℕ → Tables → ℕ
shstrtab_at e t = strtab_at e t + length t.names

abbrev pub shstrtab_end : ℕ → Tables → ℕ
shstrtab_end e t = shstrtab_at e t + length t.titles

abbrev pub headers_at : ℕ → Tables → ℕ
headers_at e t = round_up 8 (shstrtab_end e t)

-- The header of .symtab, whose names are in the section with a number, and the first of whose entries are LOCAL; and that of a
-- string table.
abbrev pub symtab_row : ℕ → ℕ → ℕ → ℕ → HeaderRow
symtab_row offset size link info = record { title = codes ".symtab"; header = symbols_header 0 offset size link info }

abbrev pub strings_row : List ℕ → ℕ → ℕ → HeaderRow
strings_row title offset size = record { title = title; header = strings_header 0 offset size }

-- All headers but that of number 0: those of the sections of the image, .symtab, .strtab and .shstrtab.
abbrev pub header_rows : ℕ → Tables → List HeaderRow
header_rows e t =
    t.sections
    ++ (symtab_row (symtab_at e) (length t.symbols) (length t.sections + 2) t.locals
    ∷ (strings_row (codes ".strtab") (strtab_at e t) (length t.names)
    ∷ (strings_row (codes ".shstrtab") (shstrtab_at e t) (length t.titles) ∷ [])))

-- the headers of rows, as they are told but for the offsets of their names
abbrev pub row_headers : List HeaderRow → List SectionHeader
row_headers rs = map (λ r. r.header) rs

-- The bytes behind the last file part: the tables and the headers, with zeros in front of what stands at a multiple of 8.
abbrev pub tail : ℕ → Tables → List ℕ
tail e t =
    replicate (symtab_at e - e) 0
    ++ (t.symbols
    ++ (t.names
    ++ (t.titles ++ (replicate (headers_at e t - shstrtab_end e t) 0 ++ headers (header_rows e t)))))

-- The fields of the file header, of an image that is entered at an address.
abbrev pub fields_of : ℕ → ℕ → Tables → HeaderFields
fields_of entry e t = record {
  e_entry = entry;
  e_shoff = headers_at e t;
  e_shnum = length t.sections + 4;
  e_shstrndx = length t.sections + 3;
}

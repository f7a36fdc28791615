-- The symbol table of an image: behind the last file part stand .symtab, .strtab and .shstrtab, and then the headers of
-- these sections (System V gABI 4, "Sections", "String Table", "Symbol Table"; that an image has these sections and no
-- others, their order and places, and that an entry names no section, is the profile's).
use Rattle.std.specs.Prelude.{ℕ, ◌+◌, ◌-◌, ◌*◌, ◌%◌, ◌^◌, Bool, not, cond, List, [], ◌∷◌, ◌++◌, codes, filter, length, nat_le, replicate}
use Rattle.std.specs.List.{filter_map, flat_map}
use Rattle.elf_model.specs.Link.Listing.{listed}
use Rattle.elf_model.specs.Link.Loading.{LoadedObject}
use Rattle.elf_model.specs.Image.MapRecord.{SymbolRow}
use Rattle.elf_model.specs.Link.Meaning.{Common, Linker, Meaning, Symbol, is_in_thread_storage, meaning_name, meaning_size, meaning_value}
use Rattle.elf_model.specs.Inputs.ObjectFile.{null_section, null_symbol}
use Rattle.elf_model.specs.Link.Placement.{Where, round_up}
use Rattle.elf_model.specs.Inputs.Records.{section_header_bytes, symbol_bytes}
use Rattle.elf_model.specs.Link.Resolution.{is_weak, symbol_type}
use Rattle.elf_model.specs.declared.constants.TheConstants.{SHN_ABS, SHT_STRTAB, SHT_SYMTAB, STB_GLOBAL, STB_WEAK, STT_FUNC, STT_NOTYPE, STT_OBJECT}
use Rattle.elf_model.specs.declared.records.SectionHeader.{SectionHeader}
use Rattle.elf_model.specs.declared.records.Symbol as entry

-- Which definitions have an entry: those that have a line in the map, in the order of the lines, but for those in
-- sections with SHF_TLS.
abbrev pub has_entry : List LoadedObject → Meaning → Bool
has_entry objects m = not (is_in_thread_storage objects m)

abbrev pub line_meanings : List LoadedObject → List SymbolRow → List Meaning
line_meanings objects rows = filter_map (λ row. listed objects row.name) rows

abbrev pub tabled : List LoadedObject → List SymbolRow → List Meaning
tabled objects rows = filter (has_entry objects) (line_meanings objects rows)

-- The entry of a definition: WEAK where the definition is a weak one, else GLOBAL; of its symbol's type where that is
-- NOTYPE, OBJECT or FUNC. Its section number is SHN_ABS, its value modulo 2^64 the address.
abbrev pub entry_binding : Meaning → ℕ
entry_binding (Symbol s) = cond (is_weak s.entry) STB_WEAK STB_GLOBAL
entry_binding (Common b) = STB_GLOBAL
entry_binding (Linker name bound) = STB_GLOBAL

abbrev pub entry_type : Meaning → ℕ
entry_type (Symbol s) = cond (nat_le (symbol_type s.entry) STT_FUNC) (symbol_type s.entry) STT_NOTYPE
entry_type (Common b) = STT_OBJECT
entry_type (Linker name bound) = STT_NOTYPE

abbrev pub entry_of : Where → ℕ → Meaning → entry.Symbol
entry_of w name_at m = record {
  st_name = name_at;
  st_info = entry_binding m * 16 + entry_type m;
  st_other = 0;
  st_shndx = SHN_ABS;
  st_value = meaning_value w m % 2 ^ 64;
  st_size = meaning_size m;
}

-- the entries of definitions whose names stand in .strtab one behind the other, from an offset on
abbrev pub entries_from : Where → ℕ → List Meaning → List entry.Symbol
entries_from w at [] = []
entries_from w at (m ∷ ms) = entry_of w at m ∷ entries_from w (at + (length (meaning_name m) + 1)) ms

-- The contents of the sections: .symtab begins with an entry of zeros, a string table with a NUL; each name ends with one.
abbrev pub symbol_section : Where → List Meaning → List ℕ
symbol_section w ms = flat_map symbol_bytes (null_symbol ∷ entries_from w 1 ms)

abbrev pub ended : List ℕ → List ℕ
ended name = name ++ 0 ∷ []

abbrev pub name_section : List Meaning → List ℕ
name_section ms = 0 ∷ flat_map (λ m. ended (meaning_name m)) ms

abbrev pub section_names : List ℕ
section_names = 0 ∷ (ended (codes ".symtab") ++ (ended (codes ".strtab") ++ ended (codes ".shstrtab")))

-- Where they stand in a file whose last file part ends at e: .symtab and the headers at multiples of 8.
abbrev pub symtab_at : ℕ → ℕ
symtab_at e = round_up 8 e

abbrev pub entry_count : List Meaning → ℕ
entry_count ms = length ms + 1

abbrev pub strtab_at : ℕ → List Meaning → ℕ
strtab_at e ms = symtab_at e + 24 * entry_count ms

abbrev pub shstrtab_at : ℕ → List Meaning → ℕ
shstrtab_at e ms = strtab_at e ms + length (name_section ms)

abbrev pub shstrtab_end : ℕ → List Meaning → ℕ
shstrtab_end e ms = shstrtab_at e ms + length section_names

abbrev pub headers_at : ℕ → List Meaning → ℕ
headers_at e ms = round_up 8 (shstrtab_end e ms)

-- the end of the file: behind four headers of 64 bytes
abbrev pub tables_end : ℕ → List Meaning → ℕ
tables_end e ms = headers_at e ms + 4 * 64

-- The headers: that of number 0, which stands for none, that of the symbols, whose names are in section 2 and none of which is LOCAL but
-- the first, and those of the two string tables. The names of the sections begin at 1, 9 and 17 of .shstrtab.
abbrev pub symtab_header : ℕ → List Meaning → SectionHeader
symtab_header e ms = record {
  sh_name = 1;
  sh_type = SHT_SYMTAB;
  sh_flags = 0;
  sh_addr = 0;
  sh_offset = symtab_at e;
  sh_size = 24 * entry_count ms;
  sh_link = 2;
  sh_info = 1;
  sh_addralign = 8;
  sh_entsize = 24;
}

abbrev pub strings_header : ℕ → ℕ → ℕ → SectionHeader
strings_header name_at offset size = record {
  sh_name = name_at;
  sh_type = SHT_STRTAB;
  sh_flags = 0;
  sh_addr = 0;
  sh_offset = offset;
  sh_size = size;
  sh_link = 0;
  sh_info = 0;
  sh_addralign = 1;
  sh_entsize = 0;
}

abbrev pub table_headers : ℕ → List Meaning → List SectionHeader
table_headers e ms =
    null_section
    ∷ (symtab_header e ms
    ∷ (strings_header 9 (strtab_at e ms) (length (name_section ms))
    ∷ (strings_header 17 (shstrtab_at e ms) (length section_names) ∷ [])))

-- the bytes of the file behind its last file part, which ends at e: the three sections and their headers, with zeros in
-- front of what stands at a multiple of 8
abbrev pub tables : Where → ℕ → List Meaning → List ℕ
tables w e ms =
    replicate (symtab_at e - e) 0
    ++ (symbol_section w ms
    ++ (name_section ms
    ++ (section_names
    ++ (replicate (headers_at e ms - shstrtab_end e ms) 0 ++ flat_map section_header_bytes (table_headers e ms)))))

-- The parts of an image's symbol table, as they are compared one after the other.
use Rattle.std.specs.Prelude.{◌≡◌, ◌↔◌, ℕ, ◌+◌, ◌-◌, ◌*◌, ◌<◌, ◌^◌, List, [], ◌∷◌, ◌++◌, cond, length, replicate, Option, None, Some, IsSomeAnd}
use Rattle.std.specs.Borrow.{Bor}
use Rattle.std.specs.List.{flat_map}
use Rattle.elf_model.specs.Link.Loading.{LoadedObject}
use Rattle.elf_model.specs.Image.MapRecord.{SymbolRow}
use Rattle.elf_model.specs.Link.Meaning.{Meaning, meaning_name, meaning_size}
use Rattle.elf_model.specs.Image.MemoryImage.{file_end, loads}
use Rattle.elf_model.specs.Image.RightLink.{Subject, tabled_of, where_of}
use Rattle.elf_model.specs.Link.Placement.{Where}
use Rattle.elf_model.specs.Inputs.Records.{section_header_bytes, symbol_bytes}
use Rattle.elf_model.specs.Inputs.ObjectFile.{null_section}
use Rattle.elf_model.specs.Image.SymbolTable.{ended, entries_from, entry_binding, entry_count, entry_of, entry_type, has_entry, headers_at, name_section, section_names, shstrtab_at, shstrtab_end, strings_header, strtab_at, symbol_section, symtab_at, tabled, tables}
use Rattle.elf_model.specs.declared.constants.TheConstants.{SHN_ABS, SHT_SYMTAB}
use Rattle.elf_model.specs.declared.records.SectionHeader.{SectionHeader}
use Rattle.elf_model.specs.declared.records.Symbol as entry
use Rattle.check_tables.specs.declared.c14_tables.places.Places.{Places}

-- what is answered is what follows bytes in front of others, and nothing where there are other ones
abbrev pub Strips : List ℕ → List ℕ → Option (Bor (List ℕ)) → Type 0
Strips front bytes result = (rest : List ℕ) → (bytes ≡ front ++ rest) ↔ IsSomeAnd result (λ r. r.now ≡ rest)

-- the entry of a definition that has a value, and no entry where it stands in a section with SHF_TLS
abbrev pub entry_at : ℕ → ℕ → Meaning → entry.Symbol
entry_at name_at value m = record {
  st_name = name_at;
  st_info = entry_binding m * 16 + entry_type m;
  st_other = 0;
  st_shndx = SHN_ABS;
  st_value = value;
  st_size = meaning_size m;
}

abbrev pub entry_if_tabled : List LoadedObject → ℕ → ℕ → Meaning → Option entry.Symbol
entry_if_tabled objects name_at value m = cond (has_entry objects m) (Some (entry_at name_at value m)) None

-- the definition of a row has an entry, which is this
pub record IsTabled (objects : List LoadedObject) (w : Where) (row : SymbolRow) (name_at : ℕ) (e : entry.Symbol) : Type 0 where
  pub meaning : Meaning
  pub tabled_is : tabled objects (row ∷ []) ≡ meaning ∷ []
  pub named : meaning_name meaning ≡ row.name
  pub entry_is : e ≡ entry_of w name_at meaning

-- the names of definitions, each with its NUL
abbrev pub ended_names : List Meaning → List ℕ
ended_names ms = flat_map (λ m. ended (meaning_name m)) ms

-- bytes begin with a number of zeros and the contents of .symtab and .strtab; the first has a number of entries, and the
-- offsets of names fit their fields
pub record AreTables (w : Where) (ms : List Meaning) (padding : ℕ) (bytes : List ℕ) (count : ℕ) (others : List ℕ) : Type 0 where
  pub bytes_are : bytes ≡ replicate padding 0 ++ (symbol_section w ms ++ (name_section ms ++ others))
  pub count_is : count ≡ entry_count ms
  pub names_fit : length (name_section ms) < 2 ^ 32

-- bytes are those that a link's table and its sections ask for after the last file part, and so is a number of entries; the
-- offsets of names fit their fields
pub record AreWanted (s : Subject) (bytes : List ℕ) (count : ℕ) : Type 0 where
  pub bytes_are : bytes ≡ tables (where_of s) (file_end (loads s.image)) (tabled_of s)
  pub count_is : count ≡ entry_count (tabled_of s)
  pub names_fit : length (name_section (tabled_of s)) < 2 ^ 32

-- what is left to compare are the entries of definitions, whose names stand from an offset of .strtab on; and these names
-- with what follows them
pub record AreLeft (w : Where) (entries names : List ℕ) (name_at : ℕ) (ms : List Meaning) (others : List ℕ) : Type 0 where
  pub entries_are : entries ≡ flat_map symbol_bytes (entries_from w name_at ms)
  pub names_are : names ≡ ended_names ms ++ others
  pub fit : name_at + length (ended_names ms) < 2 ^ 32

-- where the parts are in a file whose last file part ends at e
pub record AreAt (e : ℕ) (ms : List Meaning) (p : Places) : Type 0 where
  pub symtab : p.symtab ≡ symtab_at e
  pub symtab_size : p.symtab_size ≡ 24 * entry_count ms
  pub strtab : p.strtab ≡ strtab_at e ms
  pub strtab_size : p.strtab_size ≡ length (name_section ms)
  pub shstrtab : p.shstrtab ≡ shstrtab_at e ms
  pub shstrtab_end : p.shstrtab_end ≡ shstrtab_end e ms
  pub headers : p.headers ≡ headers_at e ms

-- the headers of sections that are there, and what stands from the names of the sections on
abbrev pub symtab_header_of : Places → SectionHeader
symtab_header_of p = record {
  sh_name = 1;
  sh_type = SHT_SYMTAB;
  sh_flags = 0;
  sh_addr = 0;
  sh_offset = p.symtab;
  sh_size = p.symtab_size;
  sh_link = 2;
  sh_info = 1;
  sh_addralign = 8;
  sh_entsize = 24;
}

abbrev pub headers_of : Places → List SectionHeader
headers_of p =
    null_section
    ∷ (symtab_header_of p
    ∷ (strings_header 9 p.strtab p.strtab_size ∷ (strings_header 17 p.shstrtab (length section_names) ∷ [])))

abbrev pub end_bytes : Places → List ℕ
end_bytes p =
    section_names ++ (replicate (p.headers - p.shstrtab_end) 0 ++ flat_map section_header_bytes (headers_of p))

-- What is judged of a file before it is an object, and what an object keeps of it.
use Rattle.std.specs.Prelude.{ℕ, ◌≡◌, ◌==◌, ◌<◌, ◌≤◌, ◌^◌, Bool, false, not, List, [], ◌∷◌, Option, length, map, option_map, pos, unwrap_or}
use Rattle.std.specs.Global.{Vec}
use Rattle.std.specs.List.{All, slice_get}
use Rattle.byteview.specs.Numbers.{text}
use Rattle.elf_model.specs.Inputs.ObjectFile.{AreGoodGroupSections, AreGoodRelaSections, AreGoodRelas, AreGoodSymbols, AreSectionsNamed, AreSymbolsNamed, Group, HasGoodSymbolTable, HasTable, IsElf64, IsGoodTable, IsObject, IsPlaced, contents, groups, relas_in, relas_of, section, section_strings, sections, sections_of, symbol_strings, symbol_table, symbols, symbols_of}
use Rattle.elf_model.specs.Inputs.Records.{file_header}
use Rattle.elf_model.specs.declared.constants.TheConstants.{SHT_RELA}
use Rattle.elf_model.specs.declared.records.FileHeader.{FileHeader}
use Rattle.elf_model.specs.declared.records.Rela.{Rela}
use Rattle.elf_model.specs.declared.records.SectionHeader.{SectionHeader}
use Rattle.elf_model.specs.declared.records.Symbol.{Symbol}

-- the file header of bytes is one of the profile, and the section header table can be read
pub record HasGoodHeader (bytes : List ℕ) (h : FileHeader) : Type 0 where
  pub header_is : h ≡ file_header bytes
  pub long : 64 ≤ length bytes
  pub elf64 : IsElf64 h
  pub relocatable : h.e_type ≡ 1
  pub machine : h.e_machine ≡ 62
  pub ehsize : h.e_ehsize ≡ 64
  pub table : HasTable (length bytes) h
  pub size : length bytes < 2 ^ 32

-- section headers are those of the file, and all that they tell is good, but for names
pub record HasGoodSections (bytes : List ℕ) (h : FileHeader) (ss : List SectionHeader) : Type 0 where
  pub sections_are : ss ≡ sections_of bytes h
  pub table : IsGoodTable (length bytes) h ss
  pub ranges : All (IsPlaced (length bytes)) ss
  pub symbol_table : HasGoodSymbolTable ss
  pub relas : AreGoodRelaSections ss
  pub groups : AreGoodGroupSections ss

-- a relocation entry that is not there
abbrev pub null_rela : Rela
null_rela = record { r_offset = 0; r_info = 0; r_addend = pos 0 }

-- the entries of each RELA section name one of n symbols
abbrev pub HaveGoodEntries : ℕ → List ℕ → List SectionHeader → Type 0
HaveGoodEntries n bytes ss = All (λ s. s.sh_type ≡ SHT_RELA → AreGoodRelas n (relas_of bytes s)) ss

-- symbols are those of the file, and they, the names and the relocation entries are good
pub record HasGoodEntries (bytes : List ℕ) (h : FileHeader) (ss : List SectionHeader) (syms : List Symbol) : Type 0 where
  pub symbols_are : syms ≡ symbols_of bytes ss
  pub symbols : AreGoodSymbols h.e_shnum syms
  pub section_names : AreSectionsNamed (contents bytes (section ss h.e_shstrndx)) ss
  pub symbol_names : AreSymbolsNamed (contents bytes (section ss (symbol_table ss).sh_link)) syms
  pub relas : HaveGoodEntries (length syms) bytes ss

-- the names of symbols by their numbers, out of a string table; the empty name where there is no such symbol
abbrev pub names_of : List ℕ → List Symbol → ℕ → List ℕ
names_of strings symbols j = unwrap_or (option_map (λ s. text strings s.st_name) (slice_get symbols j)) []

-- a text has begun in bytes: the first of them isn't the NUL that ends one
abbrev pub is_begun : List ℕ → Bool
is_begun [] = false
is_begun (b ∷ bytes) = not (b == 0)

-- the bytes are an object, and what was kept beside them is what they hold
pub record IsRead (bytes kept_section_strings kept_symbol_strings : List ℕ) (kept_sections : List SectionHeader) (kept_symbols : List Symbol) (kept_groups : List Group) : Type 0 where
  pub object : IsObject bytes
  pub section_strings_are : kept_section_strings ≡ section_strings bytes
  pub symbol_strings_are : kept_symbol_strings ≡ symbol_strings bytes
  pub sections_are : kept_sections ≡ sections bytes
  pub symbols_are : kept_symbols ≡ symbols bytes
  pub groups_are : kept_groups ≡ groups bytes

-- of each section of a file the entries that were kept, as a list: those of a RELA section, and none of another one
abbrev pub kept_entries : List (Option (Vec Rela)) → List (Option (List Rela))
kept_entries kept = map (option_map (λ (v : Vec Rela). v.items)) kept

abbrev pub AreKept : List ℕ → List (Option (Vec Rela)) → Type 0
AreKept bytes kept = kept_entries kept ≡ map (relas_in bytes) (sections bytes)

-- the tables that an object keeps are those of its file
pub record AreTables (bytes : List ℕ) (kept_sections : List SectionHeader) (kept_symbols : List Symbol) (kept_relas : List (Option (Vec Rela))) : Type 0 where
  pub sections_are : kept_sections ≡ sections bytes
  pub symbols_are : kept_symbols ≡ symbols bytes
  pub relas_are : AreKept bytes kept_relas

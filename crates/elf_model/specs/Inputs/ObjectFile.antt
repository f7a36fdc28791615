-- What a relocatable object file holds, and the faults of one (System V gABI 4). The accessors have a value for every list of bytes; that what they speak of is there is a fact of its own.
use Rattle.std.specs.Prelude.{ℕ, Bool, ◌≡◌, ◌≢◌, ◌⊎◌, ◌<◌, ◌≤◌, ◌+◌, ◌-◌, ◌*◌, ◌/◌, ◌%◌, ◌^◌, ◌==◌, List, [], ◌∷◌, Option, None, Some, length, map, filter, take, slice_index_or, count_by, option_map, unwrap_or, if◌then◌else◌, ◌||◌}
use Rattle.std.specs.Int.{IsPowerOfTwo}
use Rattle.std.specs.List.{All, Any, find, range_with_len, slice_get}
use Rattle.std.specs.Option.{option_and_then}
use Rattle.byteview.specs.Numbers.{HasText, le, le_at, part, text}
use Rattle.elf_model.specs.Inputs.Records.{file_header, rela, section_header, symbol}
use Rattle.elf_model.specs.declared.constants.TheConstants.{EM_X86_64, ET_REL, SHN_ABS, SHN_COMMON, SHN_LORESERVE, SHT_GROUP, SHT_NOBITS, SHT_NULL, SHT_REL, SHT_RELA, SHT_STRTAB, SHT_SYMTAB, SHT_SYMTAB_SHNDX}
use Rattle.elf_model.specs.declared.faults.ObjFault.{ObjFault}
use Rattle.elf_model.specs.declared.faults.ObjFault.TheVariants as fault
use Rattle.elf_model.specs.declared.records.FileHeader.{FileHeader}
use Rattle.elf_model.specs.declared.records.Rela.{Rela}
use Rattle.elf_model.specs.declared.records.SectionHeader.{SectionHeader}
use Rattle.elf_model.specs.declared.records.Symbol.{Symbol}

-- the n records of a table, of a size each, from an offset on
abbrev pub entries : {X : Type 0} → (List ℕ → X) → ℕ → List ℕ → ℕ → ℕ → List X
entries read size bytes offset n = map (λ i. read (part bytes (offset + size * i) size)) (range_with_len 0 n)

-- a section that is not there counts as one of type NULL with all fields 0, a symbol that is not there as the null symbol
abbrev pub null_section : SectionHeader
null_section = record { sh_name = 0; sh_type = 0; sh_flags = 0; sh_addr = 0; sh_offset = 0; sh_size = 0; sh_link = 0; sh_info = 0; sh_addralign = 0; sh_entsize = 0 }

abbrev pub null_symbol : Symbol
null_symbol = record { st_name = 0; st_info = 0; st_other = 0; st_shndx = 0; st_value = 0; st_size = 0 }

-- section number k of a list
abbrev pub section : List SectionHeader → ℕ → SectionHeader
section ss k = slice_index_or ss k null_section

-- the bytes that a section names
abbrev pub contents : List ℕ → SectionHeader → List ℕ
contents bytes s = part bytes s.sh_offset s.sh_size

-- the symbol table among sections: the first of its type
abbrev pub symbol_table : List SectionHeader → SectionHeader
symbol_table ss = unwrap_or (find (λ s. s.sh_type == SHT_SYMTAB) ss) null_section

-- the entries of a RELA section
abbrev pub relas_of : List ℕ → SectionHeader → List Rela
relas_of bytes s = entries rela 24 bytes s.sh_offset (s.sh_size / 24)

-- the same accessors where header and sections were read already
abbrev pub sections_of : List ℕ → FileHeader → List SectionHeader
sections_of bytes h = entries section_header 64 bytes h.e_shoff h.e_shnum

abbrev pub symbols_of : List ℕ → List SectionHeader → List Symbol
symbols_of bytes ss = let table = symbol_table ss in entries symbol 24 bytes table.sh_offset (table.sh_size / 24)

-- the sections of a file, and the symbols of its symbol table, which are none where it has no such table
abbrev pub sections : List ℕ → List SectionHeader
sections bytes = sections_of bytes (file_header bytes)

abbrev pub symbols : List ℕ → List Symbol
symbols bytes = symbols_of bytes (sections bytes)

-- the string tables that hold the names of sections and of symbols
abbrev pub section_strings : List ℕ → List ℕ
section_strings bytes = contents bytes (section (sections bytes) (file_header bytes).e_shstrndx)

abbrev pub symbol_strings : List ℕ → List ℕ
symbol_strings bytes = let ss = sections bytes in contents bytes (section ss (symbol_table ss).sh_link)

-- the name of a section, and of a symbol, of a file
abbrev pub name_of_section : List ℕ → SectionHeader → List ℕ
name_of_section bytes s = text (section_strings bytes) s.sh_name

abbrev pub name_of_symbol : List ℕ → Symbol → List ℕ
name_of_symbol bytes s = text (symbol_strings bytes) s.st_name

-- a section of type NULL or NOBITS has no bytes in the file
abbrev pub has_no_bytes : SectionHeader → Bool
has_no_bytes s = s.sh_type == SHT_NULL || s.sh_type == SHT_NOBITS

-- by number: a section's name, its bytes, and a symbol's name; None where there is no such section (one with bytes) or symbol
abbrev pub section_name : List ℕ → ℕ → Option (List ℕ)
section_name bytes i = option_map (name_of_section bytes) (slice_get (sections bytes) i)

abbrev pub bytes_in_file : List ℕ → SectionHeader → Option (List ℕ)
bytes_in_file bytes s = if has_no_bytes s then None else Some (contents bytes s)

abbrev pub section_bytes : List ℕ → ℕ → Option (List ℕ)
section_bytes bytes i = option_and_then (bytes_in_file bytes) (slice_get (sections bytes) i)

abbrev pub symbol_name : List ℕ → ℕ → Option (List ℕ)
symbol_name bytes j = option_map (name_of_symbol bytes) (slice_get (symbols bytes) j)

-- by number: the entries of a RELA section; None where there is no such section, and where it is of another type
abbrev pub relas_in : List ℕ → SectionHeader → Option (List Rela)
relas_in bytes s = if s.sh_type == SHT_RELA then Some (relas_of bytes s) else None

abbrev pub relas : List ℕ → ℕ → Option (List Rela)
relas bytes i = option_and_then (relas_in bytes) (slice_get (sections bytes) i)

-- the number of the symbol that an entry names, and the type of its relocation (gABI 4, "Relocation")
abbrev pub rela_symbol : Rela → ℕ
rela_symbol r = r.r_info / 2 ^ 32

abbrev pub rela_type : Rela → ℕ
rela_type r = r.r_info % 2 ^ 32

-- a group of sections (gABI 4, "Section Groups"): the number of the GROUP section that lists it, its flags, its signature, and the numbers of its member sections in their order
pub record Group : Type 0 where
  pub section : ℕ
  pub flags : ℕ
  pub signature : List ℕ
  pub members : List ℕ

-- a GROUP section holds words of 4 bytes: the first is the group's flags, each other one the number of a member
abbrev pub group_flags : List ℕ → SectionHeader → ℕ
group_flags bytes s = le_at 4 bytes s.sh_offset

abbrev pub group_members : List ℕ → SectionHeader → List ℕ
group_members bytes s = entries le 4 bytes (s.sh_offset + 4) (s.sh_size / 4 - 1)

-- the group that section number i lists; its signature is the name of symbol number sh_info
abbrev pub group_at : List ℕ → List SectionHeader → (ℕ → List ℕ) → ℕ → Group
group_at bytes ss symbol_names i = let s = section ss i in record {
  section = i;
  flags = group_flags bytes s;
  signature = symbol_names s.sh_info;
  members = group_members bytes s;
}

-- the groups of a file, in the order of their sections; symbol_names gives the name of each symbol by its number
abbrev pub groups_of : List ℕ → List SectionHeader → (ℕ → List ℕ) → List Group
groups_of bytes ss symbol_names =
    map (group_at bytes ss symbol_names) (filter (λ i. (section ss i).sh_type == SHT_GROUP) (range_with_len 0 (length ss)))

abbrev pub groups : List ℕ → List Group
groups bytes = groups_of bytes (sections bytes) (λ j. unwrap_or (symbol_name bytes j) [])

-- ELF of 64 bits, least significant byte first, version 1 (gABI 4, "ELF Identification")
pub record IsElf64 (h : FileHeader) : Type 0 where
  pub ident : take 7 h.e_ident ≡ 127 ∷ 69 ∷ 76 ∷ 70 ∷ 2 ∷ 1 ∷ 1 ∷ []
  pub version : h.e_version ≡ 1

-- the section header table can be read: of 1 to 0xfeff entries of 64 bytes, inside a file of a length
pub record HasTable (len : ℕ) (h : FileHeader) : Type 0 where
  pub entsize : h.e_shentsize ≡ 64
  pub some : 0 < h.e_shnum
  pub few : h.e_shnum < SHN_LORESERVE
  pub inside : h.e_shoff + 64 * h.e_shnum ≤ len

-- number k is that of a string table
abbrev pub IsStringTable : List SectionHeader → ℕ → Type 0
IsStringTable ss k = (section ss k).sh_type ≡ SHT_STRTAB

-- the section header table as this profile asks for it
pub record IsGoodTable (len : ℕ) (h : FileHeader) (ss : List SectionHeader) : Type 0 where
  pub ehsize : h.e_ehsize ≡ 64
  pub table : HasTable len h
  pub null : (section ss 0).sh_type ≡ SHT_NULL
  pub strings : IsStringTable ss h.e_shstrndx

-- an alignment: none, or a power of two up to 2 ^ 21 (the bound is the profile's)
abbrev pub IsAlignment : ℕ → Type 0
IsAlignment a = (a ≡ 0) ⊎ (IsPowerOfTwo a × (a ≤ 2 ^ 21))

-- the bytes that a section names lie inside a file of a length
abbrev pub LiesInside : ℕ → SectionHeader → Type 0
LiesInside len s = s.sh_offset + s.sh_size ≤ len

-- a section's range and alignment
pub record IsPlaced (len : ℕ) (s : SectionHeader) : Type 0 where
  pub range : (s.sh_type ≡ SHT_NULL) ⊎ (s.sh_type ≡ SHT_NOBITS) ⊎ LiesInside len s
  pub alignment : IsAlignment s.sh_addralign

-- a symbol table's own header
pub record IsSymbolTable (ss : List SectionHeader) (s : SectionHeader) : Type 0 where
  pub entsize : s.sh_entsize ≡ 24
  pub some : 0 < s.sh_size
  pub whole : s.sh_size % 24 ≡ 0
  pub strings : IsStringTable ss s.sh_link

-- the sections hold at most one symbol table, a good one, and no extension of its section numbers
pub record HasGoodSymbolTable (ss : List SectionHeader) : Type 0 where
  pub one : count_by (λ s. s.sh_type == SHT_SYMTAB) ss ≤ 1
  pub tables : All (λ s. s.sh_type ≡ SHT_SYMTAB → IsSymbolTable ss s) ss
  pub no_extension : All (λ s. ¬ (s.sh_type ≡ SHT_SYMTAB_SHNDX)) ss

-- a symbol of a file with n sections: its binding, its type, and where it stands
pub record IsGoodSymbol (n : ℕ) (s : Symbol) : Type 0 where
  pub binding : s.st_info / 16 ≤ 2
  pub kind : s.st_info % 16 ≤ 6
  pub place : (s.st_shndx < n) ⊎ (s.st_shndx ≡ SHN_ABS) ⊎ (s.st_shndx ≡ SHN_COMMON)

-- the symbols of a file with n sections: the first is the null symbol
pub record AreGoodSymbols (n : ℕ) (symbols : List Symbol) : Type 0 where
  pub null : slice_index_or symbols 0 null_symbol ≡ null_symbol
  pub each : All (IsGoodSymbol n) symbols

-- the section that a RELA section's sh_link names is the symbol table; where there are several, which is a fault of theirs, any may be named
abbrev pub LinksToSymbols : List SectionHeader → SectionHeader → Type 0
LinksToSymbols ss s = (2 ≤ count_by (λ t. t.sh_type == SHT_SYMTAB) ss) ⊎ ((section ss s.sh_link).sh_type ≡ SHT_SYMTAB)

-- section number k may be relocated (profile: it is there, and of no type NULL, SYMTAB, STRTAB, RELA, NOBITS or GROUP)
pub record MayBeRelocated (ss : List SectionHeader) (k : ℕ) : Type 0 where
  pub there : k < length ss
  pub not_null : (section ss k).sh_type ≢ SHT_NULL
  pub not_symbols : (section ss k).sh_type ≢ SHT_SYMTAB
  pub not_strings : (section ss k).sh_type ≢ SHT_STRTAB
  pub not_relas : (section ss k).sh_type ≢ SHT_RELA
  pub not_nobits : (section ss k).sh_type ≢ SHT_NOBITS
  pub not_group : (section ss k).sh_type ≢ SHT_GROUP

-- a RELA section's own header
pub record IsRelaSection (ss : List SectionHeader) (s : SectionHeader) : Type 0 where
  pub entsize : s.sh_entsize ≡ 24
  pub whole : s.sh_size % 24 ≡ 0
  pub symbols : LinksToSymbols ss s
  pub relocates : MayBeRelocated ss s.sh_info

-- the sections hold no relocations without addends, and good RELA sections
pub record AreGoodRelaSections (ss : List SectionHeader) : Type 0 where
  pub no_rel : All (λ s. s.sh_type ≢ SHT_REL) ss
  pub relas : All (λ s. s.sh_type ≡ SHT_RELA → IsRelaSection ss s) ss

-- each entry names one of n symbols
abbrev pub AreGoodRelas : ℕ → List Rela → Type 0
AreGoodRelas n rs = All (λ r. rela_symbol r < n) rs

-- the relocations of a good file
pub record HasGoodRelas (bytes : List ℕ) : Type 0 where
  pub tables : AreGoodRelaSections (sections bytes)
  pub entries : All (λ s. s.sh_type ≡ SHT_RELA → AreGoodRelas (length (symbols bytes)) (relas_of bytes s)) (sections bytes)

-- a GROUP section's own header (profile: its sh_entsize is ignored)
pub record IsGroupSection (ss : List SectionHeader) (s : SectionHeader) : Type 0 where
  pub some : 0 < s.sh_size
  pub whole : s.sh_size % 4 ≡ 0
  pub symbols : LinksToSymbols ss s

abbrev pub AreGoodGroupSections : List SectionHeader → Type 0
AreGoodGroupSections ss = All (λ s. s.sh_type ≡ SHT_GROUP → IsGroupSection ss s) ss

-- each group's signature names one of n symbols, which may be the null symbol
abbrev pub HaveSignatures : ℕ → List SectionHeader → Type 0
HaveSignatures n ss = All (λ s. s.sh_type ≡ SHT_GROUP → s.sh_info < n) ss

-- section number k may be a member of a group (profile: it is there, isn't section 0, and is of no type SYMTAB, STRTAB or GROUP)
pub record MayBeMember (ss : List SectionHeader) (k : ℕ) : Type 0 where
  pub numbered : k ≢ 0
  pub there : k < length ss
  pub not_symbols : (section ss k).sh_type ≢ SHT_SYMTAB
  pub not_strings : (section ss k).sh_type ≢ SHT_STRTAB
  pub not_group : (section ss k).sh_type ≢ SHT_GROUP

abbrev pub AreMembers : List SectionHeader → List ℕ → Type 0
AreMembers ss members = All (MayBeMember ss) members

-- the groups of a good file
pub record HasGoodGroups (bytes : List ℕ) : Type 0 where
  pub tables : AreGoodGroupSections (sections bytes)
  pub signatures : HaveSignatures (length (symbols bytes)) (sections bytes)
  pub members : All (λ s. s.sh_type ≡ SHT_GROUP → AreMembers (sections bytes) (group_members bytes s)) (sections bytes)

-- every name is a NUL-ended text of its string table
abbrev pub AreSectionsNamed : List ℕ → List SectionHeader → Type 0
AreSectionsNamed strings ss = All (λ s. HasText strings s.sh_name) ss

abbrev pub AreSymbolsNamed : List ℕ → List Symbol → Type 0
AreSymbolsNamed strings symbols = All (λ s. HasText strings s.st_name) symbols

-- the strings of a good file
pub record AreNamed (bytes : List ℕ) : Type 0 where
  pub sections : AreSectionsNamed (section_strings bytes) (sections bytes)
  pub symbols : AreSymbolsNamed (symbol_strings bytes) (symbols bytes)

-- the symbols of a good file
pub record HasGoodSymbols (bytes : List ℕ) : Type 0 where
  pub table : HasGoodSymbolTable (sections bytes)
  pub symbols : AreGoodSymbols (file_header bytes).e_shnum (symbols bytes)

-- the bytes are an object of this profile: one field a fault
pub record IsObject (bytes : List ℕ) : Type 0 where
  pub long : 64 ≤ length bytes
  pub elf64 : IsElf64 (file_header bytes)
  pub relocatable : (file_header bytes).e_type ≡ ET_REL
  pub machine : (file_header bytes).e_machine ≡ EM_X86_64
  pub table : IsGoodTable (length bytes) (file_header bytes) (sections bytes)
  pub ranges : All (IsPlaced (length bytes)) (sections bytes)
  pub strings : AreNamed bytes
  pub symbols : HasGoodSymbols bytes
  pub relas : HasGoodRelas bytes
  pub groups : HasGoodGroups bytes
  pub size : length bytes < 2 ^ 32

-- section names can be read
pub record HasSectionStrings (len : ℕ) (h : FileHeader) (ss : List SectionHeader) : Type 0 where
  pub table : HasTable len h
  pub strings : IsStringTable ss h.e_shstrndx
  pub inside : LiesInside len (section ss h.e_shstrndx)

-- symbols can be read
pub record HasSymbols (len : ℕ) (h : FileHeader) (ss : List SectionHeader) : Type 0 where
  pub table : HasTable len h
  pub one : count_by (λ s. s.sh_type == SHT_SYMTAB) ss ≡ 1
  pub entsize : (symbol_table ss).sh_entsize ≡ 24
  pub some : 0 < (symbol_table ss).sh_size
  pub whole : (symbol_table ss).sh_size % 24 ≡ 0
  pub inside : LiesInside len (symbol_table ss)

-- symbol names can be read
pub record HasSymbolStrings (len : ℕ) (h : FileHeader) (ss : List SectionHeader) : Type 0 where
  pub symbols : HasSymbols len h ss
  pub strings : IsStringTable ss (symbol_table ss).sh_link
  pub inside : LiesInside len (section ss (symbol_table ss).sh_link)

-- the entries of a RELA section can be read
pub record HasEntries (len : ℕ) (s : SectionHeader) : Type 0 where
  pub rela : s.sh_type ≡ SHT_RELA
  pub whole : s.sh_size % 24 ≡ 0
  pub inside : LiesInside len s

-- the members that a GROUP section lists can be read
pub record HasMembers (len : ℕ) (s : SectionHeader) : Type 0 where
  pub group : s.sh_type ≡ SHT_GROUP
  pub some : 0 < s.sh_size
  pub whole : s.sh_size % 4 ≡ 0
  pub inside : LiesInside len s

-- a fault stands, by the header, the sections and the symbols of the bytes. Truncated excludes the others, and what a fault denies is judged by that fault alone.
abbrev pub StandsIn : List ℕ → FileHeader → List SectionHeader → List Symbol → ObjFault → Type 0
StandsIn bytes h ss symbols fault.Memory = Unit {0}
StandsIn bytes h ss symbols fault.Truncated = length bytes < 64
StandsIn bytes h ss symbols fault.NotElf64 = (64 ≤ length bytes) × (¬ IsElf64 h)
StandsIn bytes h ss symbols fault.NotRelocatable = (64 ≤ length bytes) × (¬ (h.e_type ≡ ET_REL))
StandsIn bytes h ss symbols fault.WrongMachine = (64 ≤ length bytes) × (¬ (h.e_machine ≡ EM_X86_64))
StandsIn bytes h ss symbols fault.BadSectionTable = (64 ≤ length bytes) × (¬ IsGoodTable (length bytes) h ss)
StandsIn bytes h ss symbols fault.BadSectionRange = HasTable (length bytes) h × (¬ All (IsPlaced (length bytes)) ss)
StandsIn bytes h ss symbols fault.BadString =
    (HasSectionStrings (length bytes) h ss × (¬ AreSectionsNamed (contents bytes (section ss h.e_shstrndx)) ss))
    ⊎ (HasSymbolStrings (length bytes) h ss × (¬ AreSymbolsNamed (contents bytes (section ss (symbol_table ss).sh_link)) symbols))
StandsIn bytes h ss symbols fault.BadSymbolTable =
    (HasTable (length bytes) h × (¬ HasGoodSymbolTable ss)) ⊎ (HasSymbols (length bytes) h ss × (¬ AreGoodSymbols h.e_shnum symbols))
StandsIn bytes h ss symbols fault.BadRela =
    (HasTable (length bytes) h × (¬ AreGoodRelaSections ss))
    ⊎ (HasSymbols (length bytes) h ss × Any (λ s. HasEntries (length bytes) s × (¬ AreGoodRelas (length symbols) (relas_of bytes s))) ss)
StandsIn bytes h ss symbols fault.BadGroup =
    (HasTable (length bytes) h × (¬ AreGoodGroupSections ss))
    ⊎ (HasSymbols (length bytes) h ss × (¬ HaveSignatures (length symbols) ss))
    ⊎ (HasTable (length bytes) h × (¬ All (λ s. HasMembers (length bytes) s → AreMembers ss (group_members bytes s)) ss))
StandsIn bytes h ss symbols fault.TooMany = 2 ^ 32 ≤ length bytes

-- a fault of the bytes as an object file
abbrev pub ObjFaultStands : List ℕ → ObjFault → Type 0
ObjFaultStands bytes f = StandsIn bytes (file_header bytes) (sections bytes) (symbols bytes) f

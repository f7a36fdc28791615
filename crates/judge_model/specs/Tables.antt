-- F13. The section headers and the symbol table of an image, where it has them: they are true (System V gABI 4, "Sections",
-- "Symbol Table"). Programs run without them; debuggers and profilers believe them.
use Rattle.std.specs.Prelude.{◌≡◌, ◌⊎◌, ℕ, ◌+◌, ◌-◌, ◌*◌, ◌%◌, ◌^◌, ◌<◌, ◌≤◌, ◌==◌, ◌&&◌, ◌||◌, Bool, true, false, not, cond, List, [], ◌∷◌, None, Some, All, Any, IsSomeAnd, bit_and, codes, drop, find, is_some, length, nat_eq, nat_le, nat_lt, unwrap_or, count_by}
use Rattle.std.specs.List.{ends_with, list_any, prefix_len, slice_get}
use Rattle.std.specs.Option.{option_map_or}
use Rattle.std.specs.Str.{bytes_eq}
use Rattle.byteview.specs.Numbers.{part, text}
use Rattle.elf_model.specs.Image.MemoryImage.{loads}
use Rattle.elf_model.specs.Inputs.ObjectFile.{contents, entries, has_no_bytes, section, symbol_table, symbols_of}
use Rattle.elf_model.specs.Inputs.Records.{file_header, section_header}
use Rattle.elf_model.specs.Link.LinkerNames.{is_start_name, is_stop_name}
use Rattle.elf_model.specs.Link.LinkerValues.{start_of_pieces}
use Rattle.elf_model.specs.Link.Meaning.{Common, Linker, Meaning, Symbol, is_in_thread_storage}
use Rattle.elf_model.specs.Link.Pieces.{is_alloc, is_nobits, is_thread_local, is_thread_piece, load_size}
use Rattle.elf_model.specs.Link.Placement.{Placed, is_of_section}
use Rattle.elf_model.specs.Link.Relocation.{is_local}
use Rattle.elf_model.specs.Link.Resolution.{SymbolOf, all_symbols, binding, is_undefined, is_weak, symbol_type}
use Rattle.elf_model.specs.declared.constants.TheConstants.{SHN_ABS, SHN_LORESERVE, STB_LOCAL, STT_FILE, STT_NOTYPE, STT_OBJECT, STT_SECTION}
use Rattle.elf_model.specs.declared.records.ProgramHeader.{ProgramHeader}
use Rattle.elf_model.specs.declared.records.SectionHeader.{SectionHeader}
use Rattle.elf_model.specs.declared.records.Symbol as entry
use Rattle.judge_model.specs.Links.{ForeignLink, objects_of, placed_of}
use Rattle.judge_model.specs.Means.{is_by_script, object_or_linker, symbol_value, value_of}
use Rattle.judge_model.specs.Certificates.{value_of_name}
use Rattle.judge_model.specs.Placed.{needed_rights}

-- Section headers.

-- Their number is e_shnum; where this is 0 and there is a table, which has more than e_shnum can tell, it is sh_size of the
-- first (gABI 4, "ELF Header"). The symbols of the table among them, and their names.
abbrev pub has_first : List ℕ → Bool
has_first image = nat_lt 0 (file_header image).e_shoff && nat_le ((file_header image).e_shoff + 64) (length image)

abbrev pub is_counted_there : List ℕ → Bool
is_counted_there image = (file_header image).e_shnum == 0 && has_first image

abbrev pub section_count : List ℕ → ℕ
section_count image =
    cond (is_counted_there image) (section_header (part image (file_header image).e_shoff 64)).sh_size (file_header image).e_shnum

abbrev pub image_sections : List ℕ → List SectionHeader
image_sections image = entries section_header 64 image (file_header image).e_shoff (section_count image)

abbrev pub image_symbols : List ℕ → List entry.Symbol
image_symbols image = symbols_of image (image_sections image)

abbrev pub strings_of : List ℕ → List SectionHeader → List ℕ
strings_of image ss = contents image (section ss (symbol_table ss).sh_link)

abbrev pub name_of_entry : List ℕ → entry.Symbol → List ℕ
name_of_entry image e = text (strings_of image (image_sections image)) e.st_name

-- a section with SHF_ALLOC is in a segment with its rights, and where it has bytes these are the segment's there
abbrev pub IsMappedBy : SectionHeader → ProgramHeader → Type 0
IsMappedBy h g =
    (g.p_vaddr ≤ h.sh_addr)
    × (h.sh_addr + h.sh_size ≤ g.p_vaddr + g.p_memsz)
    × (bit_and g.p_flags (needed_rights h) ≡ needed_rights h)
    × (is_nobits h ≡ false → (h.sh_offset + g.p_vaddr ≡ g.p_offset + h.sh_addr) × (h.sh_offset + h.sh_size ≤ g.p_offset + g.p_filesz))

-- the zeros of thread-local storage take up no memory, and are judged by PT_TLS
abbrev pub is_in_memory : SectionHeader → Bool
is_in_memory h = is_alloc h && not (is_thread_local h && is_nobits h)

abbrev pub IsSectionTrue : List ℕ → SectionHeader → Type 0
IsSectionTrue image h =
    (is_in_memory h ≡ true → 0 < h.sh_size → Any (IsMappedBy h) (loads image))
    × (has_no_bytes h ≡ false → h.sh_offset + h.sh_size ≤ length image)

-- where any section takes up memory, each section of the inputs lies in one
abbrev pub LiesInSection : Placed → SectionHeader → Type 0
LiesInSection q h = (is_in_memory h ≡ true) × (h.sh_addr ≤ q.at) × (q.at + load_size q.piece ≤ h.sh_addr + h.sh_size)

abbrev pub AreCovered : ForeignLink → Type 0
AreCovered l =
    Any (λ h. is_in_memory h ≡ true) (image_sections l.image)
    → All (λ q. 0 < load_size q.piece → Any (LiesInSection q) (image_sections l.image)) (placed_of l)

-- Symbols.

-- what st_shndx is where it has no room for a section's number (gABI 4, SHN_XINDEX)
abbrev pub shn_xindex : ℕ
shn_xindex = 0xffff

-- An entry stands in the section with SHF_ALLOC that has its value, or names none; or st_shndx has no room for the number of its
-- section, where there are so many. One of what takes up no memory may stand in any: what a linker defines, as `__ehdr_start` of all,
-- and what is defined in an empty section.
abbrev pub is_beyond_numbers : List ℕ → entry.Symbol → Bool
is_beyond_numbers image e = e.st_shndx == shn_xindex && nat_le SHN_LORESERVE (section_count image)

abbrev pub IsOfSection : List ℕ → entry.Symbol → ℕ → Type 0
IsOfSection image e v =
    (e.st_shndx ≡ SHN_ABS)
    ⊎ (is_beyond_numbers image e ≡ true)
    ⊎ IsSomeAnd (slice_get (image_sections image) e.st_shndx) (λ h. (is_alloc h ≡ true) × (h.sh_addr ≤ v) × (v ≤ h.sh_addr + h.sh_size))

abbrev pub IsOfSome : List ℕ → entry.Symbol → Type 0
IsOfSome image e = (is_undefined e ≡ false) × (e.st_shndx < length (image_sections image))

abbrev pub is_in_empty : ForeignLink → SymbolOf → Bool
is_in_empty l s =
    option_map_or (λ q. q.piece.size == 0) (find (is_of_section s.object s.entry.st_shndx) (placed_of l)) false

abbrev pub takes_no_memory : ForeignLink → Meaning → Bool
takes_no_memory l (Symbol s) = is_in_empty l s
takes_no_memory l (Common b) = false
takes_no_memory l (Linker name bound) = true

abbrev pub StandsRight : ForeignLink → entry.Symbol → Meaning → ℕ → Type 0
StandsRight l e m v = IsOfSection l.image e v ⊎ ((takes_no_memory l m ≡ true) × IsOfSome l.image e)

-- the value of an entry: that of what it names; of a thread-local one the offset from the block's beginning
abbrev pub block_start : ForeignLink → ℕ
block_start l = unwrap_or (start_of_pieces is_thread_piece (placed_of l)) 0

abbrev pub entry_value : ForeignLink → Meaning → ℕ → ℕ
entry_value l m v = cond (is_in_thread_storage (objects_of l) m) (v - block_start l) (v % 2 ^ 64)

-- size, type and binding: those of the symbol, or none and LOCAL; a common block is an object; a linker's name has no type, and what
-- size it has no standard says
abbrev pub HasSizeOf : entry.Symbol → Meaning → Type 0
HasSizeOf e (Symbol s) = (e.st_size ≡ s.entry.st_size) ⊎ (e.st_size ≡ 0)
HasSizeOf e (Common b) = (e.st_size ≡ b.size) ⊎ (e.st_size ≡ 0)
HasSizeOf e (Linker name bound) = Unit {0}

abbrev pub HasTypeOf : entry.Symbol → Meaning → Type 0
HasTypeOf e (Symbol s) = (symbol_type e ≡ symbol_type s.entry) ⊎ (symbol_type e ≡ STT_NOTYPE)
HasTypeOf e (Common b) = (symbol_type e ≡ STT_OBJECT) ⊎ (symbol_type e ≡ STT_NOTYPE)
HasTypeOf e (Linker name bound) = symbol_type e ≤ STT_OBJECT

abbrev pub HasBindingOf : entry.Symbol → Meaning → Type 0
HasBindingOf e (Symbol s) = (binding e ≡ binding s.entry) ⊎ (binding e ≡ STB_LOCAL)
HasBindingOf e m = Unit {0}

pub record IsEntryOf (l : ForeignLink) (e : entry.Symbol) (m : Meaning) (v : ℕ) : Type 0 where
  pub value : e.st_value ≡ entry_value l m v
  pub size : HasSizeOf e m
  pub type_ : HasTypeOf e m
  pub binding_ : HasBindingOf e m
  pub section : StandsRight l e m v

-- it names what its name means to all objects
abbrev pub IsGlobalEntry : ForeignLink → List ℕ → entry.Symbol → Type 0
IsGlobalEntry l name e = IsSomeAnd (object_or_linker l name) (λ m. IsSomeAnd (value_of l m) (IsEntryOf l e m))

-- it names a LOCAL symbol of an object
abbrev pub IsLocalOf : ForeignLink → List ℕ → entry.Symbol → SymbolOf → Type 0
IsLocalOf l name e s =
    (is_local s ≡ true)
    × (bytes_eq s.name name ≡ true)
    × (is_undefined s.entry ≡ false)
    × IsSomeAnd (symbol_value l s) (IsEntryOf l e (Symbol s))

abbrev pub IsLocalEntry : ForeignLink → List ℕ → entry.Symbol → Type 0
IsLocalEntry l name e = (binding e ≡ STB_LOCAL) × Any (IsLocalOf l name e) (all_symbols (objects_of l))

-- it names a script's value; it names nothing, as no object defines what a WEAK symbol asks for, whose entry may be LOCAL, or as the
-- linker made the name; it stands for a file or a section
abbrev pub IsScriptEntry : ForeignLink → List ℕ → entry.Symbol → Type 0
IsScriptEntry l name e = (is_by_script l name ≡ true) × (value_of_name l.certificate.names name ≡ Some e.st_value)

pub record IsMissing (l : ForeignLink) (name : List ℕ) (e : entry.Symbol) : Type 0 where
  pub undefined : is_undefined e ≡ true
  pub value : e.st_value ≡ 0
  pub weak : (is_weak e ≡ true) ⊎ (binding e ≡ STB_LOCAL)
  pub none : object_or_linker l name ≡ None

-- The names that linkers make of themselves and no object defines: those of dynamic linking, bounds of sections that the
-- image hasn't, and mold's of slots of the GOT; and those that compilers give the ends of the list of call frames. They are LOCAL, and
-- whatever value they have is nobody's.
abbrev pub made_names : List (List ℕ)
made_names =
    codes "_DYNAMIC" ∷ codes "_PROCEDURE_LINKAGE_TABLE_" ∷ codes "_TLS_MODULE_BASE_" ∷ codes "__GNU_EH_FRAME_HDR" ∷ codes "__dso_handle"
    ∷ codes "__rela_iplt_start" ∷ codes "__rela_iplt_end" ∷ codes "__EH_FRAME_BEGIN__" ∷ codes "__FRAME_END__" ∷ []

abbrev pub is_slot_name : List ℕ → Bool
is_slot_name name = ends_with nat_eq name (codes "$got") || ends_with nat_eq name (codes "$gottp")

abbrev pub is_made_name : List ℕ → Bool
is_made_name name = list_any (bytes_eq name) made_names || (is_slot_name name || (is_start_name name || is_stop_name name))

pub record IsMade (l : ForeignLink) (name : List ℕ) (e : entry.Symbol) : Type 0 where
  pub known : is_made_name name ≡ true
  pub none : object_or_linker l name ≡ None
  pub binding_ : binding e ≡ STB_LOCAL
  pub type_ : symbol_type e ≤ STT_OBJECT
  pub size : e.st_size ≡ 0

pub record IsFile (e : entry.Symbol) : Type 0 where
  pub type_ : symbol_type e ≡ STT_FILE
  pub binding_ : binding e ≡ STB_LOCAL
  pub value : e.st_value ≡ 0
  pub section : e.st_shndx ≡ SHN_ABS

pub record IsSection (image : List ℕ) (e : entry.Symbol) : Type 0 where
  pub type_ : symbol_type e ≡ STT_SECTION
  pub binding_ : binding e ≡ STB_LOCAL
  pub value : IsSomeAnd (slice_get (image_sections image) e.st_shndx) (λ h. e.st_value ≡ h.sh_addr)

abbrev pub IsEntryRight : ForeignLink → entry.Symbol → Type 0
IsEntryRight l e =
    IsGlobalEntry l (name_of_entry l.image e) e
    ⊎ IsLocalEntry l (name_of_entry l.image e) e
    ⊎ IsScriptEntry l (name_of_entry l.image e) e
    ⊎ IsMissing l (name_of_entry l.image e) e
    ⊎ IsMade l (name_of_entry l.image e) e
    ⊎ IsFile e
    ⊎ IsSection l.image e

-- Each name is there that objects define and the image has, unless the words strip; those in thread-local storage may be
-- missing. sh_info is the number of the LOCAL symbols, which come first.
abbrev pub has_this_name : ForeignLink → List ℕ → entry.Symbol → Bool
has_this_name l name e = bytes_eq (name_of_entry l.image e) name

abbrev pub is_tabled : ForeignLink → SymbolOf → Bool
is_tabled l s =
    not (is_local s)
    && (not (is_undefined s.entry)
    && (is_some (symbol_value l s) && not (is_in_thread_storage (objects_of l) (Symbol s))))

abbrev pub AreThere : ForeignLink → Type 0
AreThere l = All (λ s. is_tabled l s ≡ true → Any (λ e. has_this_name l s.name e ≡ true) (image_symbols l.image)) (all_symbols (objects_of l))

abbrev pub is_local_entry : entry.Symbol → Bool
is_local_entry e = binding e == STB_LOCAL

pub record IsTableRight (l : ForeignLink) : Type 0 where
  pub entries_are : All (IsEntryRight l) (drop 1 (image_symbols l.image))
  pub there : l.plan.strips ≡ false → AreThere l
  pub local_first : (symbol_table (image_sections l.image)).sh_info ≡ prefix_len is_local_entry (image_symbols l.image)
  pub local_all : (symbol_table (image_sections l.image)).sh_info ≡ count_by is_local_entry (image_symbols l.image)

pub record AreTablesRight (l : ForeignLink) : Type 0 where
  pub inside : (file_header l.image).e_shoff + 64 * section_count l.image ≤ length l.image
  pub sections_are : All (IsSectionTrue l.image) (image_sections l.image)
  pub covered : AreCovered l
  pub symbols_are : 0 < length (image_symbols l.image) → IsTableRight l

abbrev pub HasTables : List ℕ → Type 0
HasTables image = 0 < section_count image

-- Sections that are kept, as pieces of which the output's memory is made (System V gABI 4,
-- "Sections"; which kinds are lawful and the output names are the profile's).
use Rattle.std.specs.Prelude.{◌≡◌, ℕ, ◌+◌, ◌==◌, ◌&&◌, ◌||◌, Bool, true, false, not, cond, List, [], ◌∷◌, ◌++◌, All, AllPairs, Contains, bit_and, codes, unwrap_or, max, find, nat_eq}
use Rattle.std.specs.List.{list_any, starts_with}
use Rattle.std.specs.Str.{bytes_eq}
use Rattle.elf_model.specs.Link.Loading.{LoadedObject, is_dropped}
use Rattle.elf_model.specs.Inputs.ObjectFile.{sections, section_name, section_bytes}
use Rattle.elf_model.specs.declared.constants.TheConstants.{PF_R, PF_W, PF_X, SHF_ALLOC, SHF_EXECINSTR, SHF_GROUP, SHF_INFO_LINK, SHF_MERGE, SHF_STRINGS, SHF_TLS, SHF_WRITE, SHT_FINI_ARRAY, SHT_INIT_ARRAY, SHT_NOBITS, SHT_NOTE, SHT_PREINIT_ARRAY, SHT_PROGBITS, SHT_X86_64_UNWIND}
use Rattle.elf_model.specs.declared.records.SectionHeader.{SectionHeader}

-- a flag of sh_flags is set
abbrev pub has_flag : ℕ → SectionHeader → Bool
has_flag flag h = not (bit_and h.sh_flags flag == 0)

abbrev pub is_writable : SectionHeader → Bool
is_writable h = has_flag SHF_WRITE h

abbrev pub is_alloc : SectionHeader → Bool
is_alloc h = has_flag SHF_ALLOC h

abbrev pub is_executable : SectionHeader → Bool
is_executable h = has_flag SHF_EXECINSTR h

abbrev pub is_thread_local : SectionHeader → Bool
is_thread_local h = has_flag SHF_TLS h

-- it takes up memory, and has no bytes in the file
abbrev pub is_nobits : SectionHeader → Bool
is_nobits h = h.sh_type == SHT_NOBITS

-- a piece of the output's memory: a kept section of an object, or a common block (Commons)
pub record Piece : Type 0 where
  pub object : ℕ
  pub section : ℕ
  pub name : List ℕ
  pub header : SectionHeader
  pub size : ℕ
  pub align : ℕ
  pub bytes : List ℕ

-- the section's number, name and header, its size, its alignment, where 0 means 1, and its input bytes;
-- NOBITS sections have none, and bytes past a list's end are read as 0
abbrev pub piece_of : ℕ → List ℕ → ℕ → SectionHeader → Piece
piece_of object bytes i h = record {
  object = object;
  section = i;
  name = unwrap_or (section_name bytes i) [];
  header = h;
  size = h.sh_size;
  align = max 1 h.sh_addralign;
  bytes = unwrap_or (section_bytes bytes i) [];
}

-- section i of an object, which has the header, is kept: it has SHF_ALLOC, and it isn't dropped with its group
abbrev pub is_kept : LoadedObject → ℕ → SectionHeader → Bool
is_kept o i h = is_alloc h && not (is_dropped o i)

-- the kept sections of one object, from section number i on
abbrev pub pieces_from : ℕ → LoadedObject → ℕ → List SectionHeader → List Piece
pieces_from object o i [] = []
pieces_from object o i (h ∷ hs) =
    cond (is_kept o i h) (piece_of object o.bytes i h ∷ pieces_from object o (i + 1) hs) (pieces_from object o (i + 1) hs)

-- the kept sections of all objects from number k on, in load order
abbrev pub pieces_of : ℕ → List LoadedObject → List Piece
pieces_of k [] = []
pieces_of k (o ∷ os) = pieces_from k o 0 (sections o.bytes) ++ pieces_of (k + 1) os

abbrev pub kept_sections : List LoadedObject → List Piece
kept_sections objects = pieces_of 0 objects

-- the rights that a piece's segment has
abbrev pub rights_of : SectionHeader → ℕ
rights_of h = cond (is_executable h) (PF_R + PF_X) (cond (is_writable h) (PF_R + PF_W) PF_R)

abbrev pub piece_rights : Piece → ℕ
piece_rights p = rights_of p.header

-- the piece has bytes in the file
abbrev pub has_bytes : Piece → Bool
has_bytes p = not (is_nobits p.header)

-- a piece of thread-local storage, of which each thread has its own copy
abbrev pub is_thread_piece : Piece → Bool
is_thread_piece p = is_thread_local p.header

-- one without bytes in the file: each thread has its zeros, and memory as the segments make it has no place for them
abbrev pub is_thread_zero : Piece → Bool
is_thread_zero p = is_thread_piece p && is_nobits p.header

-- the size that a piece takes up in this memory
abbrev pub load_size : Piece → ℕ
load_size p = cond (is_thread_zero p) 0 p.size

-- the types of which a kept section may be, and the sum of the flags that it may have (profile)
abbrev pub lawful_types : List ℕ
lawful_types =
    SHT_PROGBITS ∷ SHT_NOTE ∷ SHT_NOBITS ∷ SHT_INIT_ARRAY ∷ SHT_FINI_ARRAY ∷ SHT_PREINIT_ARRAY ∷ SHT_X86_64_UNWIND ∷ []

abbrev pub lawful_flags : ℕ
lawful_flags = SHF_WRITE + SHF_ALLOC + SHF_EXECINSTR + SHF_MERGE + SHF_STRINGS + SHF_INFO_LINK + SHF_GROUP + SHF_TLS

-- the kind of a kept section is lawful (profile): a lawful type, no other flag; not both WRITE and EXECINSTR; TLS
-- and NOBITS with WRITE only
pub record IsLawfulKind (h : SectionHeader) : Type 0 where
  pub type_ : Contains lawful_types h.sh_type
  pub flags : bit_and h.sh_flags lawful_flags ≡ h.sh_flags
  pub not_both : (is_writable h && is_executable h) ≡ false
  pub thread_local : is_thread_local h ≡ true → is_writable h ≡ true
  pub nobits : is_nobits h ≡ true → is_writable h ≡ true

abbrev pub AreLawfulKinds : List LoadedObject → Type 0
AreLawfulKinds objects = All (λ p. IsLawfulKind p.header) (kept_sections objects)

-- Output sections (profile).

-- the names that gather the sections whose name begins with them and a dot
abbrev pub gathering_names : List (List ℕ)
gathering_names =
    codes ".text" ∷ codes ".rodata" ∷ codes ".data" ∷ codes ".bss" ∷ codes ".tdata" ∷ codes ".tbss"
    ∷ codes ".init_array" ∷ codes ".fini_array" ∷ codes ".preinit_array" ∷ []

-- the name equals the gathering one, or begins with it and a dot
abbrev pub is_gathered_by : List ℕ → List ℕ → Bool
is_gathered_by name gathering = bytes_eq name gathering || starts_with nat_eq name (gathering ++ codes ".")

-- the output name of a section: the gathering name that it belongs to, or its own
unfoldable pub output_name : List ℕ → List ℕ
output_name name = unwrap_or (find (is_gathered_by name) gathering_names) name

abbrev pub same_bool : Bool → Bool → Bool
same_bool a b = cond a b (not b)

-- two pieces are of one output section: one output name, and alike in WRITE, EXECINSTR, TLS and NOBITS
unfoldable pub same_output : Piece → Piece → Bool
same_output p q =
    bytes_eq (output_name p.name) (output_name q.name)
    && same_bool (is_writable p.header) (is_writable q.header)
    && same_bool (is_executable p.header) (is_executable q.header)
    && same_bool (is_thread_local p.header) (is_thread_local q.header)
    && same_bool (is_nobits p.header) (is_nobits q.header)

-- a piece is of an output name
abbrev pub is_of_output : List ℕ → Piece → Bool
is_of_output name p = bytes_eq (output_name p.name) name

-- there are kept sections of an output name
abbrev pub has_output : List LoadedObject → List ℕ → Bool
has_output objects name = list_any (is_of_output name) (kept_sections objects)

-- those of an output name are all of one output section
abbrev pub AreOneOutput : List LoadedObject → List ℕ → Type 0
AreOneOutput objects name =
    AllPairs (λ p q. is_of_output name p ≡ true → is_of_output name q ≡ true → same_output p q ≡ true) (kept_sections objects)

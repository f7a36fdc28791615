-- F11 and F12. The headers of an image: what the system asks of them to map it, and that they are true (System V gABI 4, "ELF
-- Header", 5, "Program Header"; PT_GNU_STACK, PT_GNU_RELRO and PT_GNU_PROPERTY are those of GNU; pages and tails are those
-- of Linux on x86-64).
use Rattle.std.specs.Prelude.{◌≡◌, ◌⊎◌, ℕ, ◌+◌, ◌-◌, ◌*◌, ◌/◌, ◌%◌, ◌^◌, ◌<◌, ◌≤◌, ◌==◌, ◌&&◌, ◌||◌, Bool, true, false, not, List, [], ◌∷◌, All, AllPairs, Any, bit_and, codes, count_by, filter, length, map, slice_index, take, unwrap_or}
use Rattle.std.specs.List.{list_any}
use Rattle.std.specs.Str.{bytes_eq}
use Rattle.elf_model.specs.Image.MemoryImage.{ShareNoPage, loads, program_headers}
use Rattle.elf_model.specs.Inputs.ObjectFile.{name_of_section, sections}
use Rattle.elf_model.specs.Inputs.Records.{file_header}
use Rattle.elf_model.specs.Link.Pieces.{Piece, is_executable, is_gathered_by, is_writable}
use Rattle.elf_model.specs.Link.Placement.{Covers, Placed, thing_of}
use Rattle.elf_model.specs.declared.constants.TheConstants.{PF_R, PF_W, PF_X}
use Rattle.elf_model.specs.declared.records.FileHeader.{FileHeader}
use Rattle.elf_model.specs.declared.records.ProgramHeader.{ProgramHeader}
use Rattle.elf_model.specs.declared.records.SectionHeader.{SectionHeader}
use Rattle.judge_model.specs.Links.{ForeignLink, objects_of, placed_of}
use Rattle.judge_model.specs.Plans.{in_script}
use Rattle.judge_model.specs.declared.certificate.StretchLine.{StretchLine}

-- The file header.

-- ELF, 64 bits, least significant byte first, version 1, for System V or GNU
pub record IsIdent (ident : List ℕ) : Type 0 where
  pub front : take 7 ident ≡ 0x7f ∷ 0x45 ∷ 0x4c ∷ 0x46 ∷ 2 ∷ 1 ∷ 1 ∷ []
  pub system : (slice_index ident 7 ≡ 0) ⊎ (slice_index ident 7 ≡ 3)

-- ET_EXEC for x86-64; program headers inside a file of a length behind the file header, of which Linux before 5.18 takes as
-- many as fit a page; section headers of 64 bytes or none
pub record IsFileHeader (len : ℕ) (h : FileHeader) : Type 0 where
  pub ident : IsIdent h.e_ident
  pub type_ : h.e_type ≡ 2
  pub machine : h.e_machine ≡ 62
  pub version : h.e_version ≡ 1
  pub flags : h.e_flags ≡ 0
  pub header_size : h.e_ehsize ≡ 64
  pub program_header_size : h.e_phentsize ≡ 56
  pub section_header_size : (h.e_shentsize ≡ 64) ⊎ ((h.e_shentsize ≡ 0) × (h.e_shnum ≡ 0))
  pub program_headers : h.e_phoff ≡ 64
  pub few : h.e_phnum ≤ 73
  pub inside : 64 + 56 * h.e_phnum ≤ len

-- Program headers.

abbrev pub pt_note : ℕ
pt_note = 4

abbrev pub pt_phdr : ℕ
pt_phdr = 6

abbrev pub pt_gnu_eh_frame : ℕ
pt_gnu_eh_frame = 0x6474e550

abbrev pub pt_gnu_stack : ℕ
pt_gnu_stack = 0x6474e551

abbrev pub pt_gnu_relro : ℕ
pt_gnu_relro = 0x6474e552

abbrev pub pt_gnu_property : ℕ
pt_gnu_property = 0x6474e553

-- of these types any number may be there, and of those at most one
abbrev pub is_many_type : ℕ → Bool
is_many_type t = t == 1 || t == pt_note

abbrev pub single_types : List ℕ
single_types = 7 ∷ pt_phdr ∷ pt_gnu_eh_frame ∷ pt_gnu_stack ∷ pt_gnu_relro ∷ pt_gnu_property ∷ []

abbrev pub is_single_type : ℕ → Bool
is_single_type t = list_any (λ s. s == t) single_types

abbrev pub is_of_type : ℕ → ProgramHeader → Bool
is_of_type t h = h.p_type == t

-- tables of call frames, and where the headers say that these are
abbrev pub has_frame_table : List ℕ → Bool
has_frame_table image = list_any (is_of_type pt_gnu_eh_frame) (program_headers image)

abbrev pub frame_tables : List ℕ → List ProgramHeader
frame_tables image = filter (is_of_type pt_gnu_eh_frame) (program_headers image)

abbrev pub table_stretch : ProgramHeader → StretchLine
table_stretch h = record { address = h.p_vaddr; size = h.p_memsz }

abbrev pub table_stretches : List ℕ → List StretchLine
table_stretches image = map table_stretch (frame_tables image)

pub record IsSingle (hs : List ProgramHeader) (t : ℕ) : Type 0 where
  pub count : count_by (is_of_type t) hs ≤ 1

pub record AreTypesRight (hs : List ProgramHeader) : Type 0 where
  pub known : All (λ h. (is_many_type h.p_type || is_single_type h.p_type) ≡ true) hs
  pub single : All (IsSingle hs) single_types

-- A PT_LOAD: some memory, of which the file's part comes first and lies in the file; R and no rights but R, W and X; file
-- offset and address alike within a page. Behind the file's part Linux clears memory to the page's end where the segment
-- may be written alone; at a page's end nothing is left to clear.
pub record IsLoad (len : ℕ) (h : ProgramHeader) : Type 0 where
  pub file_in_memory : h.p_filesz ≤ h.p_memsz
  pub in_file : 0 < h.p_filesz → h.p_offset + h.p_filesz ≤ len
  pub read : bit_and h.p_flags PF_R ≡ PF_R
  pub rights : bit_and h.p_flags (PF_R + (PF_W + PF_X)) ≡ h.p_flags
  pub alike : h.p_vaddr % 4096 ≡ h.p_offset % 4096
  pub low : h.p_vaddr + h.p_memsz ≤ 2 ^ 47 - 4096
  pub tail : h.p_filesz < h.p_memsz → (bit_and h.p_flags PF_W ≡ PF_W) ⊎ ((h.p_vaddr + h.p_filesz) % 4096 ≡ 0)

pub record AreLoads (len : ℕ) (hs : List ProgramHeader) : Type 0 where
  pub some : 0 < length hs
  pub each : All (IsLoad len) hs
  pub rising : AllPairs (λ g h. g.p_vaddr + g.p_memsz ≤ h.p_vaddr) hs
  pub pages : AllPairs ShareNoPage hs

-- A header of another type is true of memory where it has any: its part of the file is that of a segment there.
abbrev pub is_placed_type : ℕ → Bool
is_placed_type t = t == pt_note || (t == pt_phdr || (t == pt_gnu_eh_frame || t == pt_gnu_property))

abbrev pub IsPartOf : ProgramHeader → ProgramHeader → Type 0
IsPartOf h g =
    (g.p_vaddr ≤ h.p_vaddr)
    × (h.p_vaddr + h.p_filesz ≤ g.p_vaddr + g.p_filesz)
    × (h.p_offset + g.p_vaddr ≡ g.p_offset + h.p_vaddr)

-- PT_GNU_RELRO may reach behind the file's part, but not behind the segment's last page, where a C library could protect nothing. No
-- program reads its place in the file, which may be 0.
abbrev pub BeginsIn : ProgramHeader → ProgramHeader → Type 0
BeginsIn h g =
    (g.p_vaddr ≤ h.p_vaddr)
    × (h.p_vaddr ≤ g.p_vaddr + g.p_memsz)
    × ((h.p_offset ≡ 0) ⊎ (h.p_offset + g.p_vaddr ≡ g.p_offset + h.p_vaddr))
    × ((h.p_vaddr + h.p_memsz) / 4096 ≤ (g.p_vaddr + g.p_memsz + 4095) / 4096)

pub record IsTrueOf (hs : List ProgramHeader) (h : ProgramHeader) : Type 0 where
  pub part : is_placed_type h.p_type ≡ true → Any (IsPartOf h) hs
  pub protected : h.p_type ≡ pt_gnu_relro → Any (BeginsIn h) hs

-- PT_PHDR is where the program headers are, and may be larger than these. They are in memory: the system tells a program where
-- (AT_PHDR), and static C libraries read them there before main, whatever they find.
abbrev pub IsTable : ProgramHeader → Type 0
IsTable h = h.p_type ≡ pt_phdr → h.p_offset ≡ 64

unfoldable pub HasTable : List ℕ → Type 0
HasTable image = Any (λ g. (g.p_offset ≤ 64) × (64 + 56 * (file_header image).e_phnum ≤ g.p_offset + g.p_filesz)) (loads image)

-- physical addresses are the virtual ones unless a script says otherwise; PT_GNU_STACK has none
abbrev pub IsPhysical : ForeignLink → ProgramHeader → Type 0
IsPhysical l h = (h.p_paddr ≡ h.p_vaddr) ⊎ (in_script (λ t. t.physical) l.plan ≡ true)

-- PT_GNU_RELRO makes memory read-only before the program runs: whole pages of it, and so no code, and nothing that the program
-- may write but what is written before.
abbrev pub relro_names : List (List ℕ)
relro_names =
    codes ".tdata" ∷ codes ".tbss" ∷ codes ".init_array" ∷ codes ".fini_array" ∷ codes ".preinit_array" ∷ codes ".ctors"
    ∷ codes ".dtors" ∷ codes ".jcr" ∷ codes ".data.rel.ro" ∷ codes ".bss.rel.ro" ∷ codes ".eh_frame"
    ∷ codes ".gcc_except_table" ∷ codes ".tm_clone_table" ∷ []

abbrev pub is_written_early : Piece → Bool
is_written_early p = list_any (is_gathered_by p.name) relro_names

abbrev pub is_used_late : Placed → Bool
is_used_late q = is_executable q.piece.header || (is_writable q.piece.header && not (is_written_early q.piece))

-- from the first page's beginning to the last page's beginning
abbrev pub IsProtected : ProgramHeader → ℕ → Type 0
IsProtected h a = (h.p_vaddr / 4096 * 4096 ≤ a) × (a < (h.p_vaddr + h.p_memsz) / 4096 * 4096)

abbrev pub ProtectsNone : ForeignLink → ProgramHeader → Type 0
ProtectsNone l h =
    h.p_type ≡ pt_gnu_relro
    → All (λ q. is_used_late q ≡ true → (a : ℕ) → Covers (thing_of q) a → ¬ IsProtected h a) (placed_of l)

-- The stack is executable only where the words ask for it, or they don't forbid it and an object asks: by the flags of its
-- .note.GNU-stack; or by having none, since a compiler that says nothing of the stack may execute it (GNU ld, gold).
abbrev pub is_stack_note : List ℕ → SectionHeader → Bool
is_stack_note bytes h = bytes_eq (name_of_section bytes h) (codes ".note.GNU-stack")

abbrev pub is_executing_note : List ℕ → Bool
is_executing_note bytes = list_any (λ h. is_executable h && is_stack_note bytes h) (sections bytes)

abbrev pub has_stack_note : List ℕ → Bool
has_stack_note bytes = list_any (is_stack_note bytes) (sections bytes)

abbrev pub asks_for_stack : List ℕ → Bool
asks_for_stack bytes = not (has_stack_note bytes) || is_executing_note bytes

abbrev pub may_execute_stack : ForeignLink → Bool
may_execute_stack l = unwrap_or l.plan.executes_stack (list_any (λ o. asks_for_stack o.bytes) (objects_of l))

abbrev pub IsStackRight : ForeignLink → ProgramHeader → Type 0
IsStackRight l h = h.p_type ≡ pt_gnu_stack → bit_and h.p_flags PF_X ≡ PF_X → may_execute_stack l ≡ true

-- It is executable where the words ask for it, or they don't forbid it and an object's note asks. And where it may not be there is
-- the header: without it Linux before 5.8 executes whatever may be read.
abbrev pub must_execute_stack : ForeignLink → Bool
must_execute_stack l = unwrap_or l.plan.executes_stack (list_any (λ o. is_executing_note o.bytes) (objects_of l))

abbrev pub IsStack : ProgramHeader → Type 0
IsStack h = h.p_type ≡ pt_gnu_stack

abbrev pub IsExecutedStack : ProgramHeader → Type 0
IsExecutedStack h = (h.p_type ≡ pt_gnu_stack) × (bit_and h.p_flags PF_X ≡ PF_X)

-- what the image alone tells: a program that the system maps, whose headers are true
pub record IsProgram (image : List ℕ) : Type 0 where
  pub long : 64 ≤ length image
  pub file : IsFileHeader (length image) (file_header image)
  pub types : AreTypesRight (program_headers image)
  pub loads_are : AreLoads (length image) (loads image)
  pub parts : All (IsTrueOf (loads image)) (program_headers image)
  pub table : All IsTable (program_headers image)
  pub mapped : HasTable image

-- F12. It is a program, has no more rights than the link gives it, and the stack that it asks for.
pub record AreHeadersRight (l : ForeignLink) : Type 0 where
  pub program : IsProgram l.image
  pub physical : All (IsPhysical l) (program_headers l.image)
  pub relro : All (ProtectsNone l) (program_headers l.image)
  pub stack : All (IsStackRight l) (program_headers l.image)
  pub executed : must_execute_stack l ≡ true → Any IsExecutedStack (program_headers l.image)
  pub told : may_execute_stack l ≡ false → Any IsStack (program_headers l.image)

-- What a loader maps: the program headers of an image, and memory as the PT_LOAD segments make it
-- (System V gABI 5, "Program Header" and "Program Loading"; which images are accepted is the profile's).
use Rattle.std.specs.Prelude.{◌≡◌, ◌⊎◌, ℕ, Bool, ◌+◌, ◌-◌, ◌*◌, ◌%◌, ◌^◌, ◌<◌, ◌≤◌, ◌==◌, ◌&&◌, true, max, nat_le, nat_lt, cond, List, [], ◌∷◌, Option, length, map, filter, replicate, All, AllPairs, option_map, slice_index, find, take, drop}
use Rattle.std.specs.List.{prefix_len, range_with_len}
use Rattle.std.specs.Int.{is_power_of_two}
use Rattle.byteview.specs.Numbers.{part}
use Rattle.elf_model.specs.Inputs.Records.{file_header, program_header}
use Rattle.elf_model.specs.declared.records.FileHeader.{FileHeader}
use Rattle.elf_model.specs.declared.records.ProgramHeader.{ProgramHeader}
use Rattle.elf_model.specs.declared.faults.LoadFault.{LoadFault}
use Rattle.elf_model.specs.declared.faults.LoadFault.TheVariants as fault

-- the program header table: e_phnum records of 56 bytes behind the file header
abbrev pub program_header_at : List ℕ → ℕ → ProgramHeader
program_header_at image i = program_header (part image (64 + 56 * i) 56)

abbrev pub program_headers : List ℕ → List ProgramHeader
program_headers image = map (program_header_at image) (range_with_len 0 (file_header image).e_phnum)

-- the bytes of the file header and the program headers
abbrev pub headers_size : List ℕ → ℕ
headers_size image = 64 + 56 * (file_header image).e_phnum

abbrev pub is_load : ProgramHeader → Bool
is_load h = h.p_type == 1

abbrev pub is_thread_block : ProgramHeader → Bool
is_thread_block h = h.p_type == 7

-- the PT_LOAD and PT_TLS headers, in the table's order
abbrev pub loads_in : List ProgramHeader → List ProgramHeader
loads_in hs = filter is_load hs

abbrev pub loads : List ℕ → List ProgramHeader
loads image = loads_in (program_headers image)

abbrev pub thread_blocks : List ℕ → List ProgramHeader
thread_blocks image = filter is_thread_block (program_headers image)

-- where the last file part ends, in bytes of the file
abbrev pub file_end : List ProgramHeader → ℕ
file_end [] = 0
file_end (h ∷ hs) = cond (nat_lt 0 h.p_filesz) (max (h.p_offset + h.p_filesz) (file_end hs)) (file_end hs)

-- Memory.

-- the addresses of a segment
abbrev pub maps : ProgramHeader → ℕ → Bool
maps h a = nat_le h.p_vaddr a && nat_lt a (h.p_vaddr + h.p_memsz)

-- the file's byte for p_filesz addresses, then zeros
abbrev pub segment_byte : List ℕ → ProgramHeader → ℕ → ℕ
segment_byte image h a = cond (nat_lt (a - h.p_vaddr) h.p_filesz) (slice_index image (h.p_offset + (a - h.p_vaddr))) 0

-- what memory has at an address: a byte, and the rights X 1, W 2, R 4 in sum
pub record Cell : Type 0 where
  pub byte : ℕ
  pub rights : ℕ

abbrev pub cell_of : List ℕ → ℕ → ProgramHeader → Cell
cell_of image a h = record { byte = segment_byte image h a; rights = h.p_flags }

-- memory, a partial function: addresses that no PT_LOAD maps have nothing
abbrev pub memory_of : List ℕ → ℕ → Option Cell
memory_of image a = option_map (cell_of image a) (find (λ h. maps h a) (loads image))

-- a range of addresses lies whole in a segment
abbrev pub Encloses : ProgramHeader → ℕ → ℕ → Type 0
Encloses h at size = (h.p_vaddr ≤ at) × (at + size ≤ h.p_vaddr + h.p_memsz)

-- Which images are accepted: no fault stands.

-- e_ident of an executable: ELF, 64 bits, little-endian, version 1, nine zeros
abbrev pub image_ident : List ℕ
image_ident = 0x7f ∷ 0x45 ∷ 0x4c ∷ 0x46 ∷ 2 ∷ 1 ∷ 1 ∷ replicate 9 0

-- no section headers; or the four of a symbol table (SymbolTable.antt), which stand at a multiple of 8 inside the file
pub record HasNoSections (h : FileHeader) : Type 0 where
  pub offset : h.e_shoff ≡ 0
  pub count : h.e_shnum ≡ 0
  pub names : h.e_shstrndx ≡ 0

pub record HasSections (len : ℕ) (h : FileHeader) : Type 0 where
  pub offset : h.e_shoff % 8 ≡ 0
  pub inside : h.e_shoff + 4 * 64 ≤ len
  pub count : h.e_shnum ≡ 4
  pub names : h.e_shstrndx ≡ 3

-- ET_EXEC for x86-64, program headers behind the file header
pub record IsImageHeader (len : ℕ) (h : FileHeader) : Type 0 where
  pub ident : h.e_ident ≡ image_ident
  pub type_ : h.e_type ≡ 2
  pub machine : h.e_machine ≡ 62
  pub version : h.e_version ≡ 1
  pub program_headers : h.e_phoff ≡ 64
  pub flags : h.e_flags ≡ 0
  pub header_size : h.e_ehsize ≡ 64
  pub program_header_size : h.e_phentsize ≡ 56
  pub section_header_size : h.e_shentsize ≡ 64
  pub sections : HasNoSections h ⊎ HasSections len h
  pub inside : 64 + 56 * h.e_phnum ≤ len

pub record HasImageHeader (image : List ℕ) : Type 0 where
  pub long : 64 ≤ length image
  pub header : IsImageHeader (length image) (file_header image)

-- what may stand behind the PT_LOADs: at most one PT_TLS, then one PT_GNU_STACK
abbrev pub IsTail : List ProgramHeader → Type 0
IsTail (stack ∷ []) = stack.p_type ≡ 0x6474e551
IsTail (block ∷ (stack ∷ [])) = (block.p_type ≡ 7) × (stack.p_type ≡ 0x6474e551)
IsTail _ = ⊥

-- one or more PT_LOADs by ascending address, then at most one PT_TLS, then one PT_GNU_STACK
pub record IsInOrder (hs : List ProgramHeader) : Type 0 where
  pub a_load : 0 < prefix_len is_load hs
  pub tail : IsTail (drop (prefix_len is_load hs) hs)
  pub ascending : AllPairs (λ g h. g.p_vaddr < h.p_vaddr) (take (prefix_len is_load hs) hs)

-- p_vaddr of the first PT_LOAD, 0 without any
abbrev pub first_address : List ProgramHeader → ℕ
first_address [] = 0
first_address (h ∷ hs) = h.p_vaddr

pub record IsGoodLoad (first len : ℕ) (h : ProgramHeader) : Type 0 where
  pub some_rights : 4 ≤ h.p_flags
  pub no_other_rights : h.p_flags ≤ 6
  pub align : h.p_align ≡ 4096
  pub physical : h.p_paddr ≡ h.p_vaddr
  pub on_a_page : h.p_vaddr % 4096 ≡ 0
  pub some_memory : 0 < h.p_memsz
  pub file_in_memory : h.p_filesz ≤ h.p_memsz
  pub end : h.p_vaddr + h.p_memsz ≤ 2 ^ 46
  pub offset : h.p_offset + first ≡ h.p_vaddr
  pub inside : 0 < h.p_filesz → h.p_offset + h.p_filesz ≤ len

-- the first PT_LOAD's file part holds the file header and all program headers
abbrev pub HoldsHeaders : ℕ → List ProgramHeader → Type 0
HoldsHeaders size [] = Unit {0}
HoldsHeaders size (h ∷ hs) = size ≤ h.p_filesz

pub record IsGoodThreadBlock (first : ℕ) (h : ProgramHeader) : Type 0 where
  pub rights : h.p_flags ≡ 4
  pub physical : h.p_paddr ≡ h.p_vaddr
  pub offset : h.p_offset + first ≡ h.p_vaddr
  pub align : is_power_of_two h.p_align ≡ true
  pub aligned : h.p_vaddr % h.p_align ≡ 0
  pub file_in_memory : h.p_filesz ≤ h.p_memsz
  pub end : h.p_vaddr + h.p_memsz ≤ 2 ^ 46

pub record IsGoodStack (h : ProgramHeader) : Type 0 where
  pub rights : h.p_flags ≡ 6
  pub offset : h.p_offset ≡ 0
  pub address : h.p_vaddr ≡ 0
  pub physical : h.p_paddr ≡ 0
  pub file_size : h.p_filesz ≡ 0
  pub memory_size : h.p_memsz ≡ 0
  pub align : h.p_align ≡ 0

pub record AreGoodSegments (len : ℕ) (hs : List ProgramHeader) : Type 0 where
  pub segments : All (IsGoodLoad (first_address (loads_in hs)) len) (loads_in hs)
  pub headers : HoldsHeaders (64 + 56 * length hs) (loads_in hs)
  pub thread_blocks : All (λ h. h.p_type ≡ 7 → IsGoodThreadBlock (first_address (loads_in hs)) h) hs
  pub stacks : All (λ h. h.p_type ≡ 0x6474e551 → IsGoodStack h) hs

-- no page of 4096 bytes is touched by both: page k has the addresses from k * 4096 on
abbrev pub Touches : ProgramHeader → ℕ → Type 0
Touches h k = (h.p_vaddr < (k + 1) * 4096) × (k * 4096 < h.p_vaddr + h.p_memsz)

abbrev pub ShareNoPage : ProgramHeader → ProgramHeader → Type 0
ShareNoPage g h = (k : ℕ) → Touches g k → Touches h k → ⊥

-- an image that a loader of this profile maps
pub record IsImage (image : List ℕ) : Type 0 where
  pub header : HasImageHeader image
  pub order : IsInOrder (program_headers image)
  pub segments : AreGoodSegments (length image) (program_headers image)
  pub pages : AllPairs ShareNoPage (loads image)

-- which fault stands: where the header is bad, the table is not judged; want of memory has no cause in the image
abbrev pub LoadFaultStands : List ℕ → LoadFault → Type 0
LoadFaultStands image fault.Memory = Unit {0}
LoadFaultStands image fault.BadHeader = ¬ HasImageHeader image
LoadFaultStands image fault.Order = HasImageHeader image × (¬ IsInOrder (program_headers image))
LoadFaultStands image fault.BadSegment = HasImageHeader image × (¬ AreGoodSegments (length image) (program_headers image))
LoadFaultStands image fault.SharedPage = HasImageHeader image × (¬ AllPairs ShareNoPage (loads image))

-- The image file as it is written: the headers, then the bytes of the places one behind the other, with fill
-- between them.
use Rattle.std.specs.Prelude.{◌≡◌, ◌==◌, ℕ, ◌+◌, ◌-◌, ◌≤◌, ◌^◌, ◌&&◌, Bool, true, false, cond, List, [], ◌∷◌, ◌++◌, Option, All, length, map, nat_le, nat_lt, replicate}
use Rattle.std.specs.List.{flat_map, range_with_len, slice_get}
use Rattle.std.specs.Option.{option_map_or}
use Rattle.byteview.specs.Numbers.{le_bytes}
use Rattle.elf_model.specs.Own.ImageFile.{HeaderFields, header_bytes, is_got_piece, own_byte, own_end, own_file_header, piece_byte, stack_header}
use Rattle.elf_model.specs.Link.Loading.{LoadedObject}
use Rattle.elf_model.specs.Inputs.ObjectFile.{section}
use Rattle.elf_model.specs.Own.OwnLayout.{is_nonempty, own_headers_size, own_where, placed_end, placed_has_bytes}
use Rattle.elf_model.specs.Link.Pieces.{Piece}
use Rattle.elf_model.specs.Link.Placement.{Placed, Where}
use Rattle.elf_model.specs.Inputs.Records.{file_header_bytes, program_header_bytes}
use Rattle.elf_model.specs.Link.Resolution.{sections_of_object}
use Rattle.elf_model.specs.Link.Slots.{Request, got_bytes, slot_value, slots}
use Rattle.elf_model.specs.declared.records.ProgramHeader.{ProgramHeader}
use Rattle.layout.specs.Placements.{Basis}
use Rattle.image_write.specs.declared.fill_bytes.Code.{Code}
use Rattle.image_write.specs.declared.pieces.Contents.{Contents}

-- the file header, and the program headers of segments, of thread-local storage, where there is one, and of the stack
abbrev pub as_list : Option ProgramHeader → List ProgramHeader
as_list header = option_map_or (λ h. h ∷ []) header []

abbrev pub count_of : List ProgramHeader → List ProgramHeader → ℕ
count_of hs ts = length hs + (length ts + 1)

abbrev pub headers_of : HeaderFields → List ProgramHeader → List ProgramHeader → List ℕ
headers_of fields hs ts =
    file_header_bytes (own_file_header fields (count_of hs ts)) ++ flat_map program_header_bytes (hs ++ (ts ++ stack_header ∷ []))

-- a segment's file part ends low enough to be counted
pub record EndsLow (h : ProgramHeader) : Type 0 where
  pub address : h.p_vaddr + h.p_filesz ≤ 2 ^ 46
  pub offset : h.p_offset + h.p_filesz ≤ 2 ^ 46

-- the addresses of the file part of the first segment that may be read and executed
abbrev pub code_part : List ProgramHeader → Code
code_part [] = record { start = 0; end = 0 }
code_part (h ∷ hs) = cond (h.p_flags == 5) (record { start = h.p_vaddr; end = h.p_vaddr + h.p_filesz }) (code_part hs)

-- the fill at an address, and that of all addresses from one to before another
abbrev pub fill_byte : Code → ℕ → ℕ
fill_byte c a = cond (nat_le c.start a && nat_lt a c.end) 0x90 0

abbrev pub fill_run : Code → ℕ → ℕ → List ℕ
fill_run c x y = map (fill_byte c) (range_with_len x (y - x))

-- the place has bytes in the file
abbrev pub is_written : Placed → Bool
is_written q = placed_has_bytes q && is_nonempty q.piece

-- the wanted bytes of a piece, be it the GOT
abbrev pub bytes_of : List LoadedObject → Where → Piece → List ℕ
bytes_of objects w p = map (piece_byte objects w p) (range_with_len 0 p.size)

-- the values of slots, and the bytes of a GOT whose slots have some values
abbrev pub values_of : List LoadedObject → Where → List Request → List ℕ
values_of objects w qs = map (λ q. slot_value objects w q.kind q.target) qs

abbrev pub got_of : List ℕ → List ℕ
got_of values = replicate 8 0 ++ flat_map (le_bytes 8) values

-- the bytes of the addresses from x to before another: of those places that have bytes, and fill between them
abbrev pub body_from : List LoadedObject → Where → Code → ℕ → ℕ → List Placed → List ℕ
body_from objects w c to x [] = fill_run c x to
body_from objects w c to x (q ∷ qs) =
    cond (is_written q) (fill_run c x q.at ++ (bytes_of objects w q.piece ++ body_from objects w c to (placed_end q) qs))
    (body_from objects w c to x qs)

-- the places that have bytes follow each other from x on, and end at or below another address
abbrev pub Rise : ℕ → ℕ → List Placed → Type 0
Rise x to [] = x ≤ to
Rise x to (q ∷ qs) = (is_written q ≡ true → (x ≤ q.at) × Rise (placed_end q) to qs) × (is_written q ≡ false → Rise x to qs)

-- the values of the slots of objects that are laid out
abbrev pub slot_values : Basis → List ℕ
slot_values b = values_of b.objects (own_where b.base b.objects) (slots b.objects)

-- what pieces hold: the values of relocations and of slots, of the layout in which they stand
abbrev pub basis_of : Contents → Basis
basis_of c = c.placement.now

abbrev pub all_bytes : Contents → Piece → List ℕ
all_bytes c p = bytes_of (basis_of c).objects (own_where (basis_of c).base (basis_of c).objects) p

abbrev pub all_body : Contents → Code → ℕ → ℕ → List Placed → List ℕ
all_body c code to x qs = body_from (basis_of c).objects (own_where (basis_of c).base (basis_of c).objects) code to x qs

pub record AreContents (c : Contents) : Type 0 where
  pub patches : c.patches.now ≡ c.placement.now
  pub slots : c.slots.now ≡ slot_values c.placement.now

-- a piece has all bytes of its section
pub record IsWhole (objects : List LoadedObject) (p : Piece) : Type 0 where
  pub bytes : length p.bytes ≡ p.size
  pub section_size : (section (sections_of_object (slice_get objects p.object)) p.section).sh_size ≡ p.size

-- so each that isn't the GOT; and that has the size of its own bytes
pub record IsFull (objects : List LoadedObject) (w : Where) (p : Piece) : Type 0 where
  pub section : is_got_piece objects p ≡ false → IsWhole objects p
  pub got : is_got_piece objects p ≡ true → length (got_bytes objects w) ≡ p.size

abbrev pub AreFull : List LoadedObject → Where → List Placed → Type 0
AreFull objects w qs = All (λ q. is_written q ≡ true → IsFull objects w q.piece) qs

abbrev pub HasContents : Contents → Piece → Type 0
HasContents c p = IsFull (basis_of c).objects (own_where (basis_of c).base (basis_of c).objects) p

abbrev pub AreFilled : Contents → List Placed → Type 0
AreFilled c qs = AreFull (basis_of c).objects (own_where (basis_of c).base (basis_of c).objects) qs

-- the image file up to the end of its last file part, with fields of the file header
abbrev pub file_parts : ℕ → List LoadedObject → HeaderFields → List ℕ
file_parts base objects fields =
    header_bytes base objects fields
    ++ map (λ i. own_byte base objects (base + i))
    (range_with_len (own_headers_size objects) (own_end base objects - own_headers_size objects))

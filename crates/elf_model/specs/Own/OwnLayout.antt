-- Where the linker itself lays out (profile): segments R (neither writable nor executable), RX and RW, in
-- this order, R from the base on with the headers in front, RX and RW from page boundaries on. Thread-local pieces
-- without bytes have addresses behind those with bytes, and nothing makes room for them.
use Rattle.std.specs.Prelude.{ℕ, ◌+◌, ◌-◌, ◌*◌, ◌^◌, ◌<◌, ◌≤◌, ◌&&◌, Bool, true, not, cond, List, [], ◌∷◌, ◌++◌, Option, None, Some, All, filter, find, length, map, max, nat_lt, option_map, unwrap_or}
use Rattle.std.specs.List.{flat_map, list_any}
use Rattle.elf_model.specs.Link.ArrayOrder.{in_array_order}
use Rattle.elf_model.specs.Link.Loading.{LoadedObject}
use Rattle.elf_model.specs.Image.MemoryImage.{file_end}
use Rattle.elf_model.specs.Image.MapRecord.{SlotRow}
use Rattle.elf_model.specs.Link.Commons.{block_pieces, pieces}
use Rattle.elf_model.specs.Link.Pieces.{Piece, kept_sections, is_writable, is_executable, is_thread_piece, has_bytes, same_output}
use Rattle.elf_model.specs.Link.Placement.{Placed, Where, is_of_section, round_up}
use Rattle.elf_model.specs.Link.RelocationValues.{AllFit}
use Rattle.elf_model.specs.Link.Slots.{Request, got_size, has_got, slots}
use Rattle.elf_model.specs.Link.ThreadStorage.{alignment_of}
use Rattle.elf_model.specs.declared.constants.TheConstants.{SHF_ALLOC, SHF_WRITE, SHT_PROGBITS}
use Rattle.elf_model.specs.declared.link_map.GotLine.{GotLine}
use Rattle.elf_model.specs.declared.records.ProgramHeader.{ProgramHeader}
use Rattle.elf_model.specs.declared.records.SectionHeader.{SectionHeader}

-- each piece at the least multiple of its alignment not below the running address, which then is its end
abbrev pub place_at : ℕ → Piece → Placed
place_at x p = record { at = round_up p.align x; piece = p }

abbrev pub placed_end : Placed → ℕ
placed_end q = q.at + q.piece.size

abbrev pub placed_from : ℕ → List Piece → List Placed
placed_from x [] = []
placed_from x (p ∷ ps) = place_at x p ∷ placed_from (placed_end (place_at x p)) ps

-- the running address behind all of them
abbrev pub end_of : ℕ → List Piece → ℕ
end_of x [] = x
end_of x (p ∷ ps) = end_of (placed_end (place_at x p)) ps

-- output sections by first appearance in load order, the pieces of each in their order
abbrev pub leaders : List Piece → List Piece
leaders [] = []
leaders (p ∷ ps) = p ∷ filter (λ q. not (same_output p q)) (leaders ps)

abbrev pub grouped : List Piece → List Piece
grouped ps = flat_map (λ p. in_array_order (filter (same_output p) ps)) (leaders ps)

-- The GOT as a piece, where there is one: it may be written, has bytes in the file, and stands on a multiple of 8. Its
-- number is that of the one section of an object behind those that are loaded and the one that the blocks make.
abbrev pub got_header : ℕ → SectionHeader
got_header size = record {
  sh_name = 0;
  sh_type = SHT_PROGBITS;
  sh_flags = SHF_WRITE + SHF_ALLOC;
  sh_addr = 0;
  sh_offset = 0;
  sh_size = size;
  sh_link = 0;
  sh_info = 0;
  sh_addralign = 8;
  sh_entsize = 0;
}

abbrev pub got_number : List LoadedObject → ℕ
got_number objects = length objects + 1

abbrev pub got_piece : List LoadedObject → Piece
got_piece objects = record {
  object = got_number objects;
  section = 0;
  name = [];
  header = got_header (got_size objects);
  size = got_size objects;
  align = 8;
  bytes = [];
}

abbrev pub got_pieces : List LoadedObject → List Piece
got_pieces objects = cond (has_got objects) (got_piece objects ∷ []) []

-- all pieces and the GOT, in the order of their numbers
abbrev pub laid_out : List LoadedObject → List Piece
laid_out objects = pieces objects ++ got_pieces objects

-- the pieces of each segment, in the order in which they stand; in RW the thread-local ones with bytes, other ones with
-- bytes, the GOT, those without bytes, and the common blocks
abbrev pub is_read_only : Piece → Bool
is_read_only p = not (is_writable p.header) && not (is_executable p.header)

abbrev pub is_code : Piece → Bool
is_code p = is_executable p.header

abbrev pub is_initial : Piece → Bool
is_initial p = is_writable p.header && (is_thread_piece p && has_bytes p)

abbrev pub is_thread_rest : Piece → Bool
is_thread_rest p = is_writable p.header && (is_thread_piece p && not (has_bytes p))

abbrev pub is_data : Piece → Bool
is_data p = is_writable p.header && (not (is_thread_piece p) && has_bytes p)

abbrev pub is_zero : Piece → Bool
is_zero p = is_writable p.header && (not (is_thread_piece p) && not (has_bytes p))

abbrev pub read_only_pieces : List LoadedObject → List Piece
read_only_pieces objects = grouped (filter is_read_only (kept_sections objects))

abbrev pub code_pieces : List LoadedObject → List Piece
code_pieces objects = grouped (filter is_code (kept_sections objects))

abbrev pub initial_pieces : List LoadedObject → List Piece
initial_pieces objects = grouped (filter is_initial (kept_sections objects))

abbrev pub data_pieces : List LoadedObject → List Piece
data_pieces objects =
    initial_pieces objects
    ++ (grouped (filter is_data (kept_sections objects))
    ++ (got_pieces objects ++ (grouped (filter is_zero (kept_sections objects)) ++ block_pieces objects)))

-- the thread-local pieces without bytes
abbrev pub thread_rest_pieces : List LoadedObject → List Piece
thread_rest_pieces objects = grouped (filter is_thread_rest (kept_sections objects))

-- the program headers: PT_LOAD of R, of RX and of RW where a nonempty piece is there, PT_TLS where a thread-local piece
-- is there, be it empty, PT_GNU_STACK
abbrev pub is_nonempty : Piece → Bool
is_nonempty p = nat_lt 0 p.size

abbrev pub has_thread_pieces : List LoadedObject → Bool
has_thread_pieces objects = list_any is_thread_piece (kept_sections objects)

abbrev pub count_if : Bool → ℕ
count_if b = cond b 1 0

abbrev pub header_count : List LoadedObject → ℕ
header_count objects =
    2
    + (count_if (list_any is_nonempty (code_pieces objects))
    + (count_if (list_any is_nonempty (data_pieces objects)) + count_if (has_thread_pieces objects)))

abbrev pub own_headers_size : List LoadedObject → ℕ
own_headers_size objects = 64 + 56 * header_count objects

-- where the segments' pieces begin
abbrev pub page_up : ℕ → ℕ
page_up x = round_up 4096 x

abbrev pub read_only_start : ℕ → List LoadedObject → ℕ
read_only_start base objects = base + own_headers_size objects

abbrev pub code_start : ℕ → List LoadedObject → ℕ
code_start base objects = page_up (end_of (read_only_start base objects) (read_only_pieces objects))

abbrev pub data_start : ℕ → List LoadedObject → ℕ
data_start base objects = page_up (end_of (code_start base objects) (code_pieces objects))

-- where the thread-local pieces begin: at a multiple of their greatest alignment; and where the pieces of RW do, at the
-- beginning of RW where none of them is thread-local
abbrev pub thread_start : ℕ → List LoadedObject → ℕ
thread_start base objects = round_up (alignment_of is_thread_piece (kept_sections objects)) (data_start base objects)

abbrev pub first_start : ℕ → List LoadedObject → List Piece → ℕ
first_start base objects [] = data_start base objects
first_start base objects (p ∷ ps) = thread_start base objects

abbrev pub loaded_start : ℕ → List LoadedObject → ℕ
loaded_start base objects = first_start base objects (initial_pieces objects)

abbrev pub thread_rest_start : ℕ → List LoadedObject → ℕ
thread_rest_start base objects = end_of (thread_start base objects) (initial_pieces objects)

abbrev pub own_read_only : ℕ → List LoadedObject → List Placed
own_read_only base objects = placed_from (read_only_start base objects) (read_only_pieces objects)

abbrev pub own_code : ℕ → List LoadedObject → List Placed
own_code base objects = placed_from (code_start base objects) (code_pieces objects)

abbrev pub own_data : ℕ → List LoadedObject → List Placed
own_data base objects = placed_from (loaded_start base objects) (data_pieces objects)

abbrev pub own_thread_rest : ℕ → List LoadedObject → List Placed
own_thread_rest base objects = placed_from (thread_rest_start base objects) (thread_rest_pieces objects)

-- the pieces for which memory has a place, at their own addresses, in the order in which they stand; and all of them
abbrev pub own_loaded : ℕ → List LoadedObject → List Placed
own_loaded base objects = own_read_only base objects ++ (own_code base objects ++ own_data base objects)

abbrev pub own_placed : ℕ → List LoadedObject → List Placed
own_placed base objects = own_loaded base objects ++ own_thread_rest base objects

-- the own address of a piece
abbrev pub own_address : ℕ → List LoadedObject → Piece → ℕ
own_address base objects p =
    unwrap_or (option_map (λ q. q.at) (find (is_of_section p.object p.section) (own_placed base objects))) 0

-- pieces at their own addresses, and all of them in load order, the kept sections before the blocks
abbrev pub own_places : ℕ → List LoadedObject → List Piece → List Placed
own_places base objects ps = map (λ p. record { at = own_address base objects p; piece = p }) ps

abbrev pub own_in_load_order : ℕ → List LoadedObject → List Placed
own_in_load_order base objects = own_places base objects (pieces objects)

-- all of them, and the GOT
abbrev pub own_laid_out : ℕ → List LoadedObject → List Placed
own_laid_out base objects = own_places base objects (laid_out objects)

-- the GOT at its own address, with the slots behind its first word
abbrev pub got_line_of : ℕ → List LoadedObject → GotLine
got_line_of base objects = record { address = own_address base objects (got_piece objects); size = got_size objects }

abbrev pub own_got : ℕ → List LoadedObject → Option GotLine
own_got base objects = cond (has_got objects) (Some (got_line_of base objects)) None

abbrev pub slot_at : ℕ → Request → SlotRow
slot_at a q = record { address = a; kind = q.kind; target = q.target }

abbrev pub slots_from : ℕ → List Request → List SlotRow
slots_from a [] = []
slots_from a (q ∷ qs) = slot_at a q ∷ slots_from (a + 8) qs

abbrev pub own_slots : ℕ → List LoadedObject → List SlotRow
own_slots base objects = slots_from (own_address base objects (got_piece objects) + 8) (slots objects)

-- where things are by the own layout
abbrev pub own_where : ℕ → List LoadedObject → Where
own_where base objects = record {
  base = base;
  placed = own_in_load_order base objects;
  got = own_got base objects;
  slots = own_slots base objects;
}

-- a segment runs to the greatest end of its nonempty pieces; its file part to that of those with bytes
abbrev pub greatest_end : (Placed → Bool) → ℕ → List Placed → ℕ
greatest_end test x [] = x
greatest_end test x (q ∷ qs) =
    cond (test q && is_nonempty q.piece) (max (placed_end q) (greatest_end test x qs)) (greatest_end test x qs)

abbrev pub any_placed : Placed → Bool
any_placed q = true

abbrev pub placed_has_bytes : Placed → Bool
placed_has_bytes q = has_bytes q.piece

-- a PT_LOAD from an address on, with rights, to the ends that its pieces give from its beginning or the
-- headers' end on
abbrev pub segment : ℕ → ℕ → ℕ → ℕ → List Placed → ProgramHeader
segment base rights start from qs = record {
  p_type = 1;
  p_flags = rights;
  p_offset = start - base;
  p_vaddr = start;
  p_paddr = start;
  p_filesz = greatest_end placed_has_bytes from qs - start;
  p_memsz = greatest_end any_placed from qs - start;
  p_align = 4096;
}

abbrev pub segment_if : List Piece → ProgramHeader → List ProgramHeader
segment_if ps h = cond (list_any is_nonempty ps) (h ∷ []) []

abbrev pub own_segments : ℕ → List LoadedObject → List ProgramHeader
own_segments base objects =
    segment base 4 base (read_only_start base objects) (own_read_only base objects)
    ∷ (segment_if (code_pieces objects) (segment base 5 (code_start base objects) (code_start base objects) (own_code base objects))
    ++ segment_if (data_pieces objects) (segment base 6 (data_start base objects) (data_start base objects) (own_data base objects)))

-- TooLarge does not stand: all ends are at or below 2 ^ 46, and the file parts end below 2 ^ 32 bytes
pub record IsNotTooLarge (base : ℕ) (objects : List LoadedObject) : Type 0 where
  pub headers : base + own_headers_size objects ≤ 2 ^ 46
  pub ends : All (λ q. placed_end q ≤ 2 ^ 46) (own_placed base objects)
  pub file : file_end (own_segments base objects) < 2 ^ 32

-- Overflow does not stand: each kept relocation's value at the own addresses fits its field
abbrev pub OwnValuesFit : ℕ → List LoadedObject → Type 0
OwnValuesFit base objects = AllFit objects (own_where base objects)

-- Debug data (System V gABI 4, "Sections"; which sections hold them, and how these are joined, is the profile's): the sections of
-- objects that hold them, joined by their names.
use Rattle.std.specs.Prelude.{◌≤◌, ℕ, ◌+◌, ◌-◌, ◌^◌, ◌==◌, ◌&&◌, ◌||◌, Bool, false, not, cond, All, List, [], ◌∷◌, ◌++◌, Option, None, Some, codes, find, length, max, nat_eq, nat_le, option_map, unwrap_or}
use Rattle.std.specs.List.{ends_with, filter_map, list_any, slice_get, starts_with}
use Rattle.std.specs.Option.{option_and_then, option_map_or}
use Rattle.std.specs.Str.{bytes_eq}
use Rattle.elf_model.specs.Inputs.ObjectFile.{Group, groups}
use Rattle.elf_model.specs.Link.Groups.{is_comdat}
use Rattle.elf_model.specs.Link.Loading.{LoadedObject, is_dropped}
use Rattle.elf_model.specs.Link.Pieces.{Piece, has_flag, is_alloc}
use Rattle.elf_model.specs.Link.Placement.{Placed, round_up}
use Rattle.elf_model.specs.declared.constants.TheConstants.{SHT_PROGBITS}
use Rattle.elf_model.specs.declared.records.SectionHeader.{SectionHeader}
use Rattle.debug_image.specs.KeptGroups.{kept_group}
use Rattle.debug_image.specs.ObjectSections.{header_in, name_in, numbers}
use Rattle.debug_image.specs.Symbols.{piece_in}
use Rattle.debug_image.specs.Tables.{HeaderRow}

-- the flags of sections that are compressed, and of those that no image takes
abbrev pub compressed_flag : ℕ
compressed_flag = 0x800

abbrev pub exclude_flag : ℕ
exclude_flag = 0x80000000

-- names of debug data: they begin with .debug_, or with .zdebug_, which is how data were compressed before there was a flag; those that
-- end with .dwo are of a file of its own (DWARF 5, 7.3.5, "Split DWARF Object Files"), and so of no image
abbrev pub is_old_name : List ℕ → Bool
is_old_name name = starts_with nat_eq name (codes ".zdebug_")

abbrev pub is_split_name : List ℕ → Bool
is_split_name name = ends_with nat_eq name (codes ".dwo")

abbrev pub is_debug_name : List ℕ → Bool
is_debug_name name = (starts_with nat_eq name (codes ".debug_") || is_old_name name) && not (is_split_name name)

-- a section of an object is of debug data: it is no part of memory, and has such a name; it holds them where it isn't dropped with
-- its group
abbrev pub is_debug_section : LoadedObject → ℕ → Bool
is_debug_section o i = not (is_alloc (header_in o i)) && is_debug_name (name_in o i)

abbrev pub holds_debug_data : LoadedObject → ℕ → Bool
holds_debug_data o i = is_debug_section o i && not (is_dropped o i)

-- they are compressed; they can be joined with those of other objects: these are bytes as they are, which an image may take
abbrev pub is_compressed : LoadedObject → ℕ → Bool
is_compressed o i = has_flag compressed_flag (header_in o i) || is_old_name (name_in o i)

abbrev pub is_joinable : LoadedObject → ℕ → Bool
is_joinable o i = ((header_in o i).sh_type == SHT_PROGBITS) && (not (has_flag exclude_flag (header_in o i)) && not (is_compressed o i))

abbrev pub is_unjoinable : LoadedObject → ℕ → Bool
is_unjoinable o i = holds_debug_data o i && not (is_joinable o i)

abbrev pub has_unjoinable : LoadedObject → Bool
has_unjoinable o = list_any (is_unjoinable o) (numbers o)

-- An object is left out as a whole: its sections refer to one another, so that some of them without the others would be read as those of
-- another object. It is left out where one of its sections can't be joined, or where sections of debug data are dropped with a group whose
-- kept one is in an object that is left out; the kept one comes first in load order, so flags for the objects before say so.
abbrev pub is_lost : LoadedObject → ℕ → Bool
is_lost o n = is_dropped o n && is_debug_section o n

abbrev pub loses_debug_data : LoadedObject → Group → Bool
loses_debug_data o g = is_comdat g && list_any (is_lost o) g.members

abbrev pub is_flagged : List Bool → ℕ → Bool
is_flagged flags k = unwrap_or (slice_get flags k) false

abbrev pub is_kept_left : List LoadedObject → List Bool → Group → Bool
is_kept_left objects flags g = option_map_or (λ h. is_flagged flags h.object) (kept_group objects g.signature) false

abbrev pub relies_on_left : List LoadedObject → List Bool → LoadedObject → Group → Bool
relies_on_left objects flags o g = loses_debug_data o g && is_kept_left objects flags g

abbrev pub is_left_out : List LoadedObject → List Bool → LoadedObject → Bool
is_left_out objects flags o = has_unjoinable o || list_any (relies_on_left objects flags o) (groups o.bytes)

abbrev pub flags_from : List LoadedObject → List Bool → List LoadedObject → List Bool
flags_from objects flags [] = flags
flags_from objects flags (o ∷ os) = flags_from objects (flags ++ is_left_out objects flags o ∷ []) os

abbrev pub left_flags : List LoadedObject → List Bool
left_flags objects = flags_from objects [] objects

-- the sections of one object that go into the image
abbrev pub debug_piece : ℕ → LoadedObject → ℕ → Option Piece
debug_piece k o i = cond (holds_debug_data o i) (Some (piece_in k i o)) None

abbrev pub pieces_unless : Bool → ℕ → LoadedObject → List Piece
pieces_unless left k o = cond left [] (filter_map (debug_piece k o) (numbers o))

abbrev pub debug_pieces : List Bool → ℕ → LoadedObject → List Piece
debug_pieces flags k o = pieces_unless (is_flagged flags k) k o

-- its alignment; one of more than 2 ^ 21 counts as 1
abbrev pub alignment : Piece → ℕ
alignment p = cond (nat_le p.align (2 ^ 21)) p.align 1

abbrev pub size_of : Piece → ℕ
size_of p = length p.bytes

-- the sections of one name, joined: its size, and its alignment, the greatest one
pub record Joined : Type 0 where
  pub title : List ℕ
  pub end : ℕ
  pub align : ℕ

abbrev pub empty : List ℕ → Joined
empty name = record { title = name; end = 0; align = 1 }

abbrev pub grown : Joined → Piece → Joined
grown j p = record { title = j.title; end = round_up (alignment p) j.end + size_of p; align = max j.align (alignment p) }

-- what is joined of a name, nothing where there is none of it
abbrev pub is_joined_of : List ℕ → Joined → Bool
is_joined_of name j = bytes_eq j.title name

abbrev pub named : List Joined → List ℕ → Joined
named js name = unwrap_or (find (is_joined_of name) js) (empty name)

-- what is joined of one name in place of what was joined of it, or behind all where that was nothing
abbrev pub replaced : List Joined → Joined → List Joined
replaced [] j = j ∷ []
replaced (i ∷ is) j = cond (is_joined_of j.title i) (j ∷ is) (i ∷ replaced is j)

-- one more section
abbrev pub joined_with : List Joined → Piece → List Joined
joined_with js p = replaced js (grown (named js p.name) p)

abbrev pub joined_all : List Joined → List Piece → List Joined
joined_all js [] = js
joined_all js (p ∷ ps) = joined_all (joined_with js p) ps

-- sections at their offsets in what is joined of their names, behind what is joined already
abbrev pub place_behind : Joined → Piece → Placed
place_behind j p = record { at = round_up (alignment p) j.end; piece = p }

abbrev pub place_in : List Joined → Piece → Placed
place_in js p = place_behind (named js p.name) p

abbrev pub places_from : List Joined → List Piece → List Placed
places_from js [] = []
places_from js (p ∷ ps) = place_in js p ∷ places_from (joined_with js p) ps

-- those of each object, in load order
abbrev pub rows_from : List Bool → List Joined → ℕ → List LoadedObject → List (List Placed)
rows_from flags js k [] = []
rows_from flags js k (o ∷ os) =
    places_from js (debug_pieces flags k o) ∷ rows_from flags (joined_all js (debug_pieces flags k o)) (k + 1) os

abbrev pub joined_from : List Bool → List Joined → ℕ → List LoadedObject → List Joined
joined_from flags js k [] = js
joined_from flags js k (o ∷ os) = joined_from flags (joined_all js (debug_pieces flags k o)) (k + 1) os

abbrev pub debug_rows : List LoadedObject → List (List Placed)
debug_rows objects = rows_from (left_flags objects) [] 0 objects

abbrev pub joined_of : List LoadedObject → List Joined
joined_of objects = joined_from (left_flags objects) [] 0 objects

-- the offset of a section of an object, by their numbers
abbrev pub is_numbered : ℕ → Placed → Bool
is_numbered number q = q.piece.section == number

abbrev pub offset_in_row : ℕ → List Placed → Option ℕ
offset_in_row number row = option_map (λ q. q.at) (find (is_numbered number) row)

abbrev pub debug_offset : List (List Placed) → ℕ → ℕ → Option ℕ
debug_offset rows object number = option_and_then (offset_in_row number) (slice_get rows object)

-- a section ends low enough, below 2 ^ 40
abbrev pub debug_end : Placed → ℕ
debug_end q = q.at + size_of q.piece

abbrev pub EndsLow : Placed → Type 0
EndsLow q = debug_end q ≤ 2 ^ 40

abbrev pub AreLow : List (List Placed) → Type 0
AreLow rows = All (All EndsLow) rows

-- the data are few enough: each section ends low, and there are at most 256 names
abbrev pub most_names : ℕ
most_names = 256

pub record AreFew (rows : List (List Placed)) (js : List Joined) : Type 0 where
  pub low : AreLow rows
  pub few : length js ≤ most_names

-- there is room for sections behind what is joined already
pub record HaveRoom (js : List Joined) (ps : List Piece) : Type 0 where
  pub low : All EndsLow (places_from js ps)
  pub few : length (joined_all js ps) ≤ most_names

pub record IsLow (j : Joined) : Type 0 where
  pub end : j.end ≤ 2 ^ 40
  pub some : 1 ≤ j.align
  pub align : j.align ≤ 2 ^ 21

-- Where they stand in the file, behind an offset: each joined section at a multiple of its alignment.
abbrev pub start_of : ℕ → Joined → ℕ
start_of y j = round_up j.align y

abbrev pub data_end : ℕ → List Joined → ℕ
data_end y [] = y
data_end y (j ∷ js) = data_end (start_of y j + j.end) js

-- their headers: without an address, and without flags, but that the tables of strings are such, of entries of one byte, so that tools may
-- merge them (System V gABI 4, "Section Attribute Flags")
abbrev pub string_flags : ℕ
string_flags = 0x30

abbrev pub holds_strings : Joined → Bool
holds_strings j = bytes_eq j.title (codes ".debug_str") || bytes_eq j.title (codes ".debug_line_str")

abbrev pub joined_header : ℕ → Joined → SectionHeader
joined_header start j = record {
  sh_name = 0;
  sh_type = SHT_PROGBITS;
  sh_flags = cond (holds_strings j) string_flags 0;
  sh_addr = 0;
  sh_offset = start;
  sh_size = j.end;
  sh_link = 0;
  sh_info = 0;
  sh_addralign = j.align;
  sh_entsize = cond (holds_strings j) 1 0;
}

abbrev pub row_of : ℕ → Joined → HeaderRow
row_of start j = record { title = j.title; header = joined_header start j }

abbrev pub joined_rows : ℕ → List Joined → List HeaderRow
joined_rows y [] = []
joined_rows y (j ∷ js) = row_of (start_of y j) j ∷ joined_rows (start_of y j + j.end) js

-- The sections one behind the other as they stand in the file, each with so many zeros in front of it.
pub record Chunk : Type 0 where
  pub pad : ℕ
  pub place : Placed

-- those of a name, which begin at an offset of the file, behind another one; and where the last one ends
abbrev pub is_titled : List ℕ → Placed → Bool
is_titled name q = bytes_eq q.piece.name name

abbrev pub chunk_at : ℕ → ℕ → Placed → Chunk
chunk_at start y q = record { pad = start + q.at - y; place = q }

abbrev pub row_chunks : List ℕ → ℕ → ℕ → List Placed → List Chunk
row_chunks name start y [] = []
row_chunks name start y (q ∷ qs) =
    cond (is_titled name q) (chunk_at start y q ∷ row_chunks name start (start + debug_end q) qs) (row_chunks name start y qs)

abbrev pub row_end : List ℕ → ℕ → ℕ → List Placed → ℕ
row_end name start y [] = y
row_end name start y (q ∷ qs) = cond (is_titled name q) (row_end name start (start + debug_end q) qs) (row_end name start y qs)

abbrev pub named_chunks : List ℕ → ℕ → ℕ → List (List Placed) → List Chunk
named_chunks name start y [] = []
named_chunks name start y (row ∷ rows) =
    row_chunks name start y row ++ named_chunks name start (row_end name start y row) rows

-- those of all names
abbrev pub chunks_of : List (List Placed) → ℕ → List Joined → List Chunk
chunks_of rows y [] = []
chunks_of rows y (j ∷ js) = named_chunks j.title (start_of y j) y rows ++ chunks_of rows (start_of y j + j.end) js

-- Where pieces lie in memory, and which rights they have there (System V gABI 5, "Program Loading"; the
-- base, the page rule and the gaps are the profile's).
use Rattle.std.specs.Prelude.{◌≡◌, ℕ, ◌+◌, ◌-◌, ◌*◌, ◌/◌, ◌%◌, ◌^◌, ◌<◌, ◌≤◌, ◌==◌, ◌&&◌, Bool, true, false, cond, List, [], ◌∷◌, ◌++◌, Option, Some, None, All, AllPairs, Any, filter, find, length, map, option_map, unwrap_or, slice_index_or}
use Rattle.std.specs.Option.{option_map_or}
use Rattle.std.specs.Str.{bytes_eq}
use Rattle.elf_model.specs.Link.Commons.{Block, block_piece}
use Rattle.elf_model.specs.Link.Pieces.{Piece, piece_rights, has_bytes, is_thread_piece, load_size, same_output}
use Rattle.elf_model.specs.Image.MapRecord.{CommonRow, MapRecord, PlaceRow, SlotRow}
use Rattle.elf_model.specs.Image.MemoryImage.{loads, first_address, headers_size, Encloses}
use Rattle.elf_model.specs.Link.Resolution.{SymbolOf, is_absolute}
use Rattle.elf_model.specs.declared.link_map.GotLine.{GotLine}
use Rattle.elf_model.specs.declared.thing.Thing.{Thing}
use Rattle.elf_model.specs.declared.records.ProgramHeader.{ProgramHeader}

-- the least multiple of a not below x
abbrev pub round_up : ℕ → ℕ → ℕ
round_up a x = (x + (a - 1)) / a * a

-- a piece at an address
pub record Placed : Type 0 where
  pub at : ℕ
  pub piece : Piece

-- where things are: the base, all pieces at their addresses, the kept sections and the common blocks, and the GOT, where
-- there is one, with its slots
pub record Where : Type 0 where
  pub base : ℕ
  pub placed : List Placed
  pub got : Option GotLine
  pub slots : List SlotRow

-- where the GOT begins and ends, 0 without one
abbrev pub got_start : Option GotLine → ℕ
got_start got = option_map_or (λ g. g.address) got 0

abbrev pub got_end : Option GotLine → ℕ
got_end got = option_map_or (λ g. g.address + g.size) got 0

-- the kept sections at the addresses that a map's place lines give, the k-th line for the k-th section
abbrev pub placed_by : List PlaceRow → List Piece → List Placed
placed_by [] ps = []
placed_by (row ∷ rows) [] = []
placed_by (row ∷ rows) (p ∷ ps) = record { at = row.address; piece = p } ∷ placed_by rows ps

-- the common blocks at the addresses that a map's common lines give by their names, 0 without one
abbrev pub is_common_row_of : List ℕ → CommonRow → Bool
is_common_row_of name row = bytes_eq row.name name

abbrev pub common_address : List CommonRow → List ℕ → ℕ
common_address rows name = unwrap_or (option_map (λ row. row.address) (find (is_common_row_of name) rows)) 0

abbrev pub placed_block : List CommonRow → Block → Placed
placed_block rows b = record { at = common_address rows b.name; piece = block_piece b }

abbrev pub placed_blocks : List CommonRow → List Block → List Placed
placed_blocks rows bs = map (placed_block rows) bs

-- a piece at an address, as a thing that takes up memory
abbrev pub thing_of : Placed → Thing
thing_of q = record {
  at = q.at;
  size = load_size q.piece;
  align = q.piece.align;
  rights = piece_rights q.piece;
  in_file = has_bytes q.piece;
}

-- the addresses of the thread-local pieces, those of the ones without bytes too, which take up no memory
abbrev pub is_thread_place : Placed → Bool
is_thread_place q = is_thread_piece q.piece

abbrev pub range_of : Placed → Thing
range_of q = record {
  at = q.at;
  size = q.piece.size;
  align = q.piece.align;
  rights = piece_rights q.piece;
  in_file = has_bytes q.piece;
}

abbrev pub thread_ranges : List Placed → List Thing
thread_ranges qs = map range_of (filter is_thread_place qs)

-- the file header and the program headers, where the image has them: at the first PT_LOAD's address
abbrev pub headers_thing : List ℕ → Thing
headers_thing image = record {
  at = first_address (loads image);
  size = headers_size image;
  align = 1;
  rights = 4;
  in_file = true;
}

-- the GOT, where the map has a line for it
abbrev pub got_things : Option GotLine → List Thing
got_things None = []
got_things (Some got) = record { at = got.address; size = got.size; align = 8; rights = 6; in_file = true } ∷ []

-- all things of an image with its map
abbrev pub things : List ℕ → MapRecord → List Placed → List Thing
things image m ps = headers_thing image ∷ (got_things m.got ++ map thing_of ps)

-- an address lies in a thing
abbrev pub Covers : Thing → ℕ → Type 0
Covers t a = (t.at ≤ a) × (a < t.at + t.size)

-- no address lies in both
abbrev pub AreApart : Thing → Thing → Type 0
AreApart s t = (a : ℕ) → Covers s a → Covers t a → ⊥

-- a thing begins at or above the base and ends at or below 2 ^ 46
abbrev pub IsWithin : ℕ → Thing → Type 0
IsWithin base t = (base ≤ t.at) × (t.at + t.size ≤ 2 ^ 46)

-- piece j comes next after piece i in their output section: none between them is of it
abbrev pub IsNext : List Placed → ℕ → ℕ → Placed → Type 0
IsNext ps i j d =
    (i < j)
    × (j < length ps)
    × (same_output (slice_index_or ps i d).piece (slice_index_or ps j d).piece ≡ true)
    × ((k : ℕ) → i < k → k < j → same_output (slice_index_or ps i d).piece (slice_index_or ps k d).piece ≡ false)

-- q stands after p, with a gap smaller than q's own alignment
pub record IsNear (p q : Placed) : Type 0 where
  pub behind : p.at + p.piece.size ≤ q.at
  pub close : q.at < (p.at + p.piece.size) + q.piece.align

-- where all things may lie, and the addresses of the thread-local pieces; neighbours are asked of kept sections only, in
-- the order of their output sections
pub record IsPlaced (base : ℕ) (ts threads : List Thing) (ps : List Placed) : Type 0 where
  pub aligned : All (λ t. t.at % t.align ≡ 0) ts
  pub within : All (IsWithin base) ts
  pub apart : AllPairs AreApart ts
  pub threads_within : All (IsWithin base) threads
  pub threads_apart : AllPairs AreApart threads
  pub near : (i j : ℕ) (d : Placed) → IsNext ps i j d → IsNear (slice_index_or ps i d) (slice_index_or ps j d)

-- a thing lies whole in one PT_LOAD that has exactly its rights
abbrev pub LiesInSegment : List ProgramHeader → Thing → Type 0
LiesInSegment segments t = Any (λ h. Encloses h t.at t.size × (h.p_flags ≡ t.rights)) segments

-- the first PT_LOAD begins at the base, and each nonempty thing, and the GOT, lies in a segment with its rights
pub record HasRights (base : ℕ) (segments : List ProgramHeader) (ts gots : List Thing) : Type 0 where
  pub first : first_address segments ≡ base
  pub nonempty : All (λ t. 0 < t.size → LiesInSegment segments t) ts
  pub got : All (LiesInSegment segments) gots

-- the address of a section of an object, 0 where it isn't kept; and the value of a symbol that is defined: an absolute
-- one's st_value; else the address of its section plus st_value, 0 where the section isn't kept
abbrev pub is_of_section : ℕ → ℕ → Placed → Bool
is_of_section object section q = q.piece.object == object && q.piece.section == section

abbrev pub section_address : List Placed → ℕ → ℕ → ℕ
section_address ps object section = unwrap_or (option_map (λ q. q.at) (find (is_of_section object section) ps)) 0

abbrev pub symbol_value : List Placed → SymbolOf → ℕ
symbol_value ps s =
    cond (is_absolute s.entry) s.entry.st_value
    (unwrap_or (option_map (λ q. q.at + s.entry.st_value) (find (is_of_section s.object s.entry.st_shndx) ps)) 0)

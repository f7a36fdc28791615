-- The symbols of a debuggable image (System V gABI 4, "Symbol Table"): which there are, and what each says.
use Rattle.std.specs.Prelude.{ℕ, ◌+◌, ◌-◌, ◌*◌, ◌%◌, ◌^◌, ◌==◌, ◌&&◌, ◌||◌, Bool, not, cond, List, [], ◌∷◌, ◌++◌, Option, None, Some, codes, find, length, nat_eq, nat_lt, option_map}
use Rattle.std.specs.List.{filter_map, slice_get, starts_with}
use Rattle.std.specs.Option.{option_and_then, option_map_or}
use Rattle.elf_model.specs.Link.Commons.{Block}
use Rattle.elf_model.specs.Link.LinkerValues.{bound_value}
use Rattle.elf_model.specs.Link.Meaning.{Common, Linker, Meaning, Symbol}
use Rattle.elf_model.specs.Inputs.ObjectFile.{section, sections, symbols}
use Rattle.elf_model.specs.Own.OwnLayout.{own_in_load_order, own_placed, own_where}
use Rattle.elf_model.specs.Link.Loading.{LoadedObject}
use Rattle.elf_model.specs.Link.Pieces.{Piece, is_thread_local, piece_of}
use Rattle.elf_model.specs.Link.Placement.{is_of_section}
use Rattle.elf_model.specs.Link.Resolution.{SymbolOf, binding, is_absolute, symbol_type, symbols_from}
use Rattle.elf_model.specs.Link.ThreadStorage.{thread_block}
use Rattle.elf_model.specs.declared.constants.TheConstants.{SHN_ABS, STB_GLOBAL, STB_LOCAL, STT_FILE, STT_NOTYPE, STT_OBJECT, STT_SECTION}
use Rattle.elf_model.specs.declared.records.Symbol as entry
use Rattle.debug_image.specs.LongNames.{has_long_names}
use Rattle.debug_image.specs.Sections.{Section, blocks_number, section_number}
use Rattle.debug_image.specs.Tables.{Row}

-- where a link is laid out: its base and its objects, with the sections of its image
pub record Laid : Type 0 where
  pub base : ℕ
  pub objects : List LoadedObject
  pub sections : List Section

-- the address of a section of an object or of a common block, by their numbers, where it is kept
abbrev pub address_of : Laid → ℕ → ℕ → Option ℕ
address_of l object number = option_map (λ q. q.at) (find (is_of_section object number) (own_in_load_order l.base l.objects))

-- where thread-local storage begins
abbrev pub thread_start_of : ℕ → List LoadedObject → ℕ
thread_start_of base objects = option_map_or (λ b. b.start) (thread_block (own_placed base objects)) 0

abbrev pub thread_start : Laid → ℕ
thread_start l = thread_start_of l.base l.objects

-- the section of an object in which a symbol is defined, as a piece
abbrev pub piece_in : ℕ → ℕ → LoadedObject → Piece
piece_in object i o = piece_of object o.bytes i (section (sections o.bytes) i)

abbrev pub symbol_piece : List LoadedObject → SymbolOf → Option Piece
symbol_piece objects s = option_map (piece_in s.object s.entry.st_shndx) (slice_get objects s.object)

-- the value of a symbol in a section at an address: its address, or its offset in thread-local storage
abbrev pub value_at : Laid → Piece → ℕ → ℕ → ℕ
value_at l p at offset = cond (is_thread_local p.header) ((at + offset) % 2 ^ 64 - thread_start l) ((at + offset) % 2 ^ 64)

-- the number of a section among the section headers, where that of the first one is 1; an empty section has no header, and
-- what is in it is absolute
abbrev pub index_of : Option ℕ → ℕ
index_of None = SHN_ABS
index_of (Some k) = (k + 1) % 2 ^ 16

-- the symbol of a section of the image
abbrev pub placed_row : List ℕ → entry.Symbol → Option ℕ → ℕ → Row
placed_row name e number value = record {
  name = name;
  entry =
      record { st_name = 0; st_info = e.st_info; st_other = e.st_other; st_shndx = index_of number; st_value = value; st_size = e.st_size };
}

-- what a symbol of an object becomes: an absolute one stays what it is; one in a kept section is of the section of the image to which
-- that belongs; any other one isn't there
abbrev pub row_in : Laid → SymbolOf → ℕ → Piece → Row
row_in l s at p = placed_row s.name s.entry (section_number (length l.objects) l.sections p) (value_at l p at s.entry.st_value)

abbrev pub row_at : Laid → SymbolOf → ℕ → Option Row
row_at l s at = option_map (row_in l s at) (symbol_piece l.objects s)

abbrev pub absolute_row : List ℕ → entry.Symbol → Row
absolute_row name e = record { name = name; entry = record e { st_name = 0 } }

abbrev pub symbol_row : Laid → SymbolOf → Option Row
symbol_row l s =
    cond (is_absolute s.entry) (Some (absolute_row s.name s.entry)) (option_and_then (row_at l s) (address_of l s.object s.entry.st_shndx))

-- a LOCAL symbol that tools want: one that names a source file, or one with a name that doesn't begin with .L, but for those of
-- sections
abbrev pub is_named : List ℕ → Bool
is_named name = nat_lt 0 (length name) && not (starts_with nat_eq name (codes ".L"))

abbrev pub is_wanted : SymbolOf → Bool
is_wanted s =
    (binding s.entry == STB_LOCAL) && (not (symbol_type s.entry == STT_SECTION) && (symbol_type s.entry == STT_FILE || is_named s.name))

abbrev pub local_row : Laid → SymbolOf → Option Row
local_row l s = cond (is_wanted s) (symbol_row l s) None

-- those of an object, unless their names come to more bytes than the object has; and those of all objects
abbrev pub own_rows : Laid → ℕ → LoadedObject → List Row
own_rows l k o = filter_map (local_row l) (symbols_from k o 0 (symbols o.bytes))

abbrev pub object_rows : Laid → ℕ → LoadedObject → List Row
object_rows l k o = cond (has_long_names o) [] (own_rows l k o)

abbrev pub rows_from : Laid → ℕ → List LoadedObject → List Row
rows_from l k [] = []
rows_from l k (o ∷ os) = object_rows l k o ++ rows_from l (k + 1) os

abbrev pub local_rows : Laid → List Row
local_rows l = rows_from l 0 l.objects

-- what a name means: a symbol as its object says it, but for a LOCAL one, which no name outside its object means; a common block is an OBJECT of its own section; a name of the linker is absolute
abbrev pub block_entry : Block → entry.Symbol
block_entry b = record { st_name = 0; st_info = STB_GLOBAL * 16 + STT_OBJECT; st_other = 0; st_shndx = 0; st_value = 0; st_size = b.size }

abbrev pub block_row : Laid → Block → Option Row
block_row l b =
    option_map (placed_row b.name (block_entry b) (blocks_number (length l.objects) l.sections)) (address_of l b.object b.number)

abbrev pub linker_row : List ℕ → ℕ → Row
linker_row name value = record {
  name = name;
  entry =
      record { st_name = 0; st_info = STB_GLOBAL * 16 + STT_NOTYPE; st_other = 0; st_shndx = SHN_ABS; st_value = value; st_size = 0 };
}

abbrev pub named_row : Laid → SymbolOf → Option Row
named_row l s = cond (binding s.entry == STB_LOCAL) None (symbol_row l s)

abbrev pub meaning_row : Laid → Meaning → Option Row
meaning_row l (Symbol s) = named_row l s
meaning_row l (Common b) = block_row l b
meaning_row l (Linker name bound) = Some (linker_row name (bound_value (own_where l.base l.objects) name bound))

abbrev pub meaning_rows : Laid → List Meaning → List Row
meaning_rows l ms = filter_map (meaning_row l) ms

-- The image file and the map of the linker's own layout (System V gABI 4 and 5; the order of segments, the
-- fill, the stack's header and the symbol table's place are the profile's).
use Rattle.std.specs.Prelude.{◌≡◌, ℕ, ◌+◌, ◌-◌, ◌^◌, ◌<◌, ◌&&◌, Bool, false, cond, List, [], ◌∷◌, ◌++◌, Option, None, Some, find, map, nat_le, nat_lt, slice_index, ◌==◌, unwrap_or, option_map}
use Rattle.std.specs.List.{flat_map, list_any, range_with_len}
use Rattle.elf_model.specs.Link.Loading.{LoadedObject}
use Rattle.elf_model.specs.Link.Commons.{Block, block_named, block_piece}
use Rattle.elf_model.specs.Image.MapRecord.{CommonRow, MapRecord, PlaceRow, SymbolRow}
use Rattle.elf_model.specs.Image.MapText.{IsOrdered}
use Rattle.elf_model.specs.Image.MemoryImage.{file_end, image_ident}
use Rattle.elf_model.specs.Link.Meaning.{Meaning, meaning_value, object_meaning}
use Rattle.elf_model.specs.Own.OwnLayout.{got_number, own_address, own_got, own_segments, own_slots, own_in_load_order, own_loaded, own_places, own_where, own_headers_size, header_count}
use Rattle.elf_model.specs.Link.Pieces.{Piece, kept_sections}
use Rattle.elf_model.specs.Link.Placement.{Placed, Where, is_common_row_of}
use Rattle.elf_model.specs.Inputs.Records.{file_header_bytes, program_header_bytes}
use Rattle.elf_model.specs.Image.RightLink.{drop_rows, object_rows, HasLine}
use Rattle.elf_model.specs.Link.Slots.{got_bytes}
use Rattle.elf_model.specs.Image.SymbolTable.{entry_count, headers_at, symtab_at, tabled, tables, tables_end}
use Rattle.elf_model.specs.Link.ThreadStorage.{thread_headers}
use Rattle.elf_model.specs.Link.WantedBytes.{wanted_byte}
use Rattle.elf_model.specs.declared.link_map.SymtabLine.{SymtabLine}
use Rattle.elf_model.specs.declared.records.FileHeader.{FileHeader}
use Rattle.elf_model.specs.declared.records.ProgramHeader.{ProgramHeader}

-- the fields of a file header that differ between images of one number of program headers: the entry's address, and where
-- the section headers stand; all but the first are 0 without a symbol table
pub record HeaderFields : Type 0 where
  pub e_entry : ℕ
  pub e_shoff : ℕ
  pub e_shnum : ℕ
  pub e_shstrndx : ℕ

abbrev pub fields_without : ℕ → HeaderFields
fields_without entry = record { e_entry = entry; e_shoff = 0; e_shnum = 0; e_shstrndx = 0 }

abbrev pub fields_with : ℕ → ℕ → HeaderFields
fields_with entry at = record { e_entry = entry; e_shoff = at; e_shnum = 4; e_shstrndx = 3 }

-- ET_EXEC for x86-64, with the program headers behind the file header
abbrev pub own_file_header : HeaderFields → ℕ → FileHeader
own_file_header fields count = record {
  e_ident = image_ident;
  e_type = 2;
  e_machine = 62;
  e_version = 1;
  e_entry = fields.e_entry;
  e_phoff = 64;
  e_shoff = fields.e_shoff;
  e_flags = 0;
  e_ehsize = 64;
  e_phentsize = 56;
  e_phnum = count;
  e_shentsize = 64;
  e_shnum = fields.e_shnum;
  e_shstrndx = fields.e_shstrndx;
}

-- PT_GNU_STACK: the stack may be read and written
abbrev pub stack_header : ProgramHeader
stack_header = record {
  p_type = 0x6474e551;
  p_flags = 6;
  p_offset = 0;
  p_vaddr = 0;
  p_paddr = 0;
  p_filesz = 0;
  p_memsz = 0;
  p_align = 0;
}

abbrev pub own_program_headers : ℕ → List LoadedObject → List ProgramHeader
own_program_headers base objects =
    own_segments base objects ++ (thread_headers base (own_in_load_order base objects) ++ stack_header ∷ [])

-- the value of the entry's definition
abbrev pub own_entry : ℕ → List LoadedObject → List ℕ → ℕ
own_entry base objects entry =
    unwrap_or (option_map (meaning_value (own_where base objects)) (object_meaning objects entry)) 0

abbrev pub header_bytes : ℕ → List LoadedObject → HeaderFields → List ℕ
header_bytes base objects fields =
    file_header_bytes (own_file_header fields (header_count objects))
    ++ flat_map program_header_bytes (own_program_headers base objects)

-- the byte that stands for an address: the GOT's, or another piece's wanted byte; else 0x90 in the file part of an
-- executable segment, and 0 everywhere else
abbrev pub covers_address : ℕ → Placed → Bool
covers_address a q = nat_le q.at a && nat_lt a (q.at + q.piece.size)

abbrev pub is_code_part : ℕ → ProgramHeader → Bool
is_code_part a h = (h.p_flags == 5) && (nat_le h.p_vaddr a && nat_lt a (h.p_vaddr + h.p_filesz))

abbrev pub fill_at : List ProgramHeader → ℕ → ℕ
fill_at segments a = cond (list_any (is_code_part a) segments) 0x90 0

abbrev pub is_got_piece : List LoadedObject → Piece → Bool
is_got_piece objects p = p.object == got_number objects

abbrev pub piece_byte : List LoadedObject → Where → Piece → ℕ → ℕ
piece_byte objects w p k = cond (is_got_piece objects p) (slice_index (got_bytes objects w) k) (wanted_byte objects w p k)

abbrev pub own_byte : ℕ → List LoadedObject → ℕ → ℕ
own_byte base objects a =
    unwrap_or
    (option_map (λ q. piece_byte objects (own_where base objects) q.piece (a - q.at)) (find (covers_address a) (own_loaded base objects)))
    (fill_at (own_segments base objects) a)

-- where the last file part ends
abbrev pub own_end : ℕ → List LoadedObject → ℕ
own_end base objects = file_end (own_segments base objects)

-- the fields of the file header and the bytes behind the last file part: those of the symbol table of definitions, or of
-- an image without one
abbrev pub own_fields : ℕ → List LoadedObject → ℕ → Option (List Meaning) → HeaderFields
own_fields base objects entry None = fields_without entry
own_fields base objects entry (Some ms) = fields_with entry (headers_at (own_end base objects) ms)

abbrev pub own_tables : ℕ → List LoadedObject → Option (List Meaning) → List ℕ
own_tables base objects None = []
own_tables base objects (Some ms) = tables (own_where base objects) (own_end base objects) ms

-- the image file that is entered at an address: the headers, then the byte of each address up to the end of the last
-- file part, then the symbol table of definitions, where there is to be one
abbrev pub image_file : ℕ → List LoadedObject → ℕ → Option (List Meaning) → List ℕ
image_file base objects entry table =
    header_bytes base objects (own_fields base objects entry table)
    ++ (map (λ i. own_byte base objects (base + i))
    (range_with_len (own_headers_size objects) (own_end base objects - own_headers_size objects))
    ++ own_tables base objects table)

-- the definitions of the table: those of the map's lines, where the words ask for a table
abbrev pub own_tabled : Bool → List LoadedObject → List SymbolRow → Option (List Meaning)
own_tabled strip objects rows = cond strip None (Some (tabled objects rows))

-- the map of the own layout, of version 2: the loaded objects, the dropped sections, the kept ones, the common blocks, the
-- GOT and its slots at their addresses, what names mean, and where the symbol table stands
abbrev pub place_row_of : Placed → PlaceRow
place_row_of q = record {
  address = q.at;
  size = q.piece.size;
  object = q.piece.object;
  section = q.piece.section;
  name = q.piece.name;
}

-- the line of a block at its own address
abbrev pub common_row_of : ℕ → List LoadedObject → Block → CommonRow
common_row_of base objects b = record {
  address = own_address base objects (block_piece b);
  size = b.size;
  align = b.align;
  name = b.name;
}

abbrev pub HasOwnCommonLine : List CommonRow → ℕ → List LoadedObject → List ℕ → Type 0
HasOwnCommonLine rows base objects name =
    find (is_common_row_of name) rows ≡ option_map (common_row_of base objects) (block_named objects name)

-- the line of the symbol table of definitions
abbrev pub symtab_line_of : ℕ → List LoadedObject → List Meaning → SymtabLine
symtab_line_of base objects ms = record { offset = symtab_at (own_end base objects); count = entry_count ms }

pub record IsOwnMap (base : ℕ) (objects : List LoadedObject) (strip : Bool) (m : MapRecord) : Type 0 where
  pub version : m.version ≡ 2
  pub objects_are : m.objects ≡ object_rows 0 objects
  pub drops : m.drops ≡ drop_rows 0 objects
  pub places : m.places ≡ map place_row_of (own_places base objects (kept_sections objects))
  pub commons : (name : List ℕ) → HasOwnCommonLine m.commons base objects name
  pub got : m.got ≡ own_got base objects
  pub slots : m.slots ≡ own_slots base objects
  pub symbols : (name : List ℕ) → HasLine m.symbols objects (own_where base objects) name
  pub symtab : m.symtab ≡ option_map (symtab_line_of base objects) (own_tabled strip objects m.symbols)
  pub ordered : IsOrdered m

-- the symbol table doesn't make the image a file of 2^32 bytes or more
abbrev pub IsTableSmall : ℕ → List LoadedObject → Type 0
IsTableSmall base objects =
    (m : MapRecord) → IsOwnMap base objects false m → tables_end (own_end base objects) (tabled objects m.symbols) < 2 ^ 32

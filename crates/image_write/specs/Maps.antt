-- The map of objects where they are laid out.
use Rattle.std.specs.Prelude.{◌≡◌, ◌+◌, ◌≤◌, ◌^◌, Bool, cond, List, IfSome, Option, None, Some, filter, find, map, option_map}
use Rattle.elf_model.specs.Own.ImageFile.{place_row_of, symtab_line_of}
use Rattle.elf_model.specs.Link.Loading.{LoadedObject}
use Rattle.elf_model.specs.Image.MapRecord.{MapRecord, PlaceRow}
use Rattle.elf_model.specs.Link.Meaning.{Common, Linker, Meaning, Symbol}
use Rattle.elf_model.specs.Own.OwnLayout.{own_address, own_got, own_slots, own_where}
use Rattle.elf_model.specs.Link.Pieces.{Piece, kept_sections}
use Rattle.elf_model.specs.Link.Placement.{Placed, is_of_section}
use Rattle.elf_model.specs.Link.Resolution.{SymbolOf}
use Rattle.elf_model.specs.Image.RightLink.{drop_rows, object_rows, symbol_row_of}
use Rattle.elf_model.specs.Link.Slots.{got_size, slots}
use Rattle.elf_model.specs.Image.SymbolTable.{has_entry}
use Rattle.elf_model.specs.declared.link_map.SymtabLine.{SymtabLine}
use Rattle.got_tls.specs.Views.{Got}
use Rattle.layout.specs.Placements.{Basis}
use Rattle.image_write.specs.CommonRows.{own_commons}

-- a symbol of a section that is placed has a value within the addresses
abbrev pub LiesBelow : List Placed → SymbolOf → Type 0
LiesBelow ps s = IfSome (option_map (λ q. q.at) (find (is_of_section s.object s.entry.st_shndx) ps)) (λ at. at + s.entry.st_value ≤ 2 ^ 46)

-- what a name means has a value below 2 ^ 64
abbrev pub LiesWithin : List Placed → Meaning → Type 0
LiesWithin ps (Symbol s) = LiesBelow ps s
LiesWithin ps (Common b) = Unit {0}
LiesWithin ps (Linker name bound) = Unit {0}

-- the line of a kept section at its own address
abbrev pub own_row : Basis → Piece → PlaceRow
own_row b p = place_row_of (record { at = own_address b.base b.objects p; piece = p })

-- the GOT of objects: its size and its slots
abbrev pub own_table : List LoadedObject → Got
own_table objects = record { got = got_size objects; slots = slots objects; objects = objects }

-- the line of the symbol table of what is listed, where there is to be one
abbrev pub own_symtab : Basis → Bool → List Meaning → Option SymtabLine
own_symtab b strip listed = option_map (symtab_line_of b.base b.objects) (cond strip None (Some (filter (has_entry b.objects) listed)))

-- a map of the objects, their dropped sections, their kept ones, their common blocks, the GOT and its slots at their own
-- addresses, definitions with their values, and the symbol table
pub record IsMapOf (b : Basis) (strip : Bool) (listed : List Meaning) (m : MapRecord) : Type 0 where
  pub version : m.version ≡ 2
  pub objects_are : m.objects ≡ object_rows 0 b.objects
  pub drops : m.drops ≡ drop_rows 0 b.objects
  pub places : m.places ≡ map (own_row b) (kept_sections b.objects)
  pub commons : m.commons ≡ own_commons b.base b.objects listed
  pub got : m.got ≡ own_got b.base b.objects
  pub slots : m.slots ≡ own_slots b.base b.objects
  pub symbols_are : m.symbols ≡ map (symbol_row_of (own_where b.base b.objects)) listed
  pub symtab : m.symtab ≡ own_symtab b strip listed

-- that map's lines
abbrev pub own_record : Basis → Bool → List Meaning → MapRecord
own_record b strip listed = record {
  version = 2;
  objects = object_rows 0 b.objects;
  drops = drop_rows 0 b.objects;
  places = map (own_row b) (kept_sections b.objects);
  commons = own_commons b.base b.objects listed;
  got = own_got b.base b.objects;
  slots = own_slots b.base b.objects;
  symbols = map (symbol_row_of (own_where b.base b.objects)) listed;
  symtab = own_symtab b strip listed;
}

-- The symbol table of what is listed: what its sections are made of, how large they are, and where they stand.
use Rattle.std.specs.Prelude.{◌≡◌, ℕ, ◌+◌, ◌*◌, ◌^◌, ◌<◌, ◌≤◌, Bool, true, false, cond, List, [], ◌∷◌, Option, None, Some, All, filter, length}
use Rattle.std.specs.List.{flat_map}
use Rattle.elf_model.specs.Own.ImageFile.{HeaderFields, fields_with, fields_without}
use Rattle.elf_model.specs.Link.Loading.{LoadedObject}
use Rattle.elf_model.specs.Link.Meaning.{Meaning, meaning_name}
use Rattle.elf_model.specs.Link.Placement.{Placed, Where, round_up}
use Rattle.elf_model.specs.Inputs.Records.{symbol_bytes}
use Rattle.elf_model.specs.Inputs.ObjectFile.{null_section}
use Rattle.elf_model.specs.Image.SymbolTable.{ended, entries_from, entry_count, has_entry, name_section, section_names, strings_header, tables_end}
use Rattle.elf_model.specs.Own.OwnLayout.{own_in_load_order, own_where}
use Rattle.elf_model.specs.Link.Pieces.{AreLawfulKinds}
use Rattle.elf_model.specs.declared.constants.TheConstants.{SHT_SYMTAB}
use Rattle.elf_model.specs.declared.link_map.SymtabLine.{SymtabLine}
use Rattle.elf_model.specs.declared.records.SectionHeader.{SectionHeader}
use Rattle.resolve.specs.Views.{meaning_view, meaning_views}
use Rattle.search.specs.Views.{loaded_views}
use Rattle.image_write.specs.Maps.{LiesWithin}
use Rattle.image_write.specs.declared.symbol_table.SymbolTable.{SymbolTable}
use Rattle.image_write.specs.declared.tables.Names.{Names}

-- the definitions that have an entry, of those that are listed
abbrev pub entered : List LoadedObject → List Meaning → List Meaning
entered objects ms = filter (has_entry objects) ms

-- their entries, whose names stand from an offset on, and their names, each with its NUL
abbrev pub entry_bytes : Where → List LoadedObject → ℕ → List Meaning → List ℕ
entry_bytes w objects at ms = flat_map symbol_bytes (entries_from w at (entered objects ms))

abbrev pub name_bytes : List LoadedObject → List Meaning → List ℕ
name_bytes objects ms = flat_map (λ m. ended (meaning_name m)) (entered objects ms)

-- a table's numbers can be counted with
pub record IsInRange (t : SymbolTable) : Type 0 where
  pub start : t.start ≤ 2 ^ 46
  pub count : t.count ≤ 2 ^ 32
  pub names : t.names ≤ 2 ^ 32

-- where its parts stand
abbrev pub symbols_place : SymbolTable → ℕ
symbols_place t = round_up 8 t.start

abbrev pub names_place : SymbolTable → ℕ
names_place t = symbols_place t + 24 * t.count

abbrev pub section_names_place : SymbolTable → ℕ
section_names_place t = names_place t + t.names

abbrev pub section_names_end : SymbolTable → ℕ
section_names_end t = section_names_place t + length section_names

abbrev pub headers_place : SymbolTable → ℕ
headers_place t = round_up 8 (section_names_end t)

-- the table of what is listed, behind an address of the file
pub record IsTableOf (objects : List LoadedObject) (e : ℕ) (ms : List Meaning) (t : SymbolTable) : Type 0 where
  pub start : t.start ≡ e
  pub count : t.count ≡ entry_count (entered objects ms)
  pub names : t.names ≡ length (name_section (entered objects ms))
  pub small : tables_end e (entered objects ms) < 2 ^ 32

-- it is there unless the words ask for none
abbrev pub HasTable : List LoadedObject → ℕ → List Meaning → Bool → Option SymbolTable → Type 0
HasTable objects e ms true None = Unit {0}
HasTable objects e ms true (Some t) = ⊥
HasTable objects e ms false None = ⊥
HasTable objects e ms false (Some t) = IsTableOf objects e ms t

-- the definitions that the image has in a table
abbrev pub table_of : Bool → List LoadedObject → List Meaning → Option (List Meaning)
table_of strip objects ms = cond strip None (Some (entered objects ms))

-- the fields of the file header
abbrev pub fields_of : ℕ → Option SymbolTable → HeaderFields
fields_of entry None = fields_without entry
fields_of entry (Some t) = fields_with entry (headers_place t)

-- the headers of its sections
abbrev pub symbols_header : ℕ → ℕ → ℕ → ℕ → ℕ → SectionHeader
symbols_header name_at offset size link info = record null_section {
  sh_name = name_at;
  sh_type = SHT_SYMTAB;
  sh_offset = offset;
  sh_size = size;
  sh_link = link;
  sh_info = info;
  sh_addralign = 8;
  sh_entsize = 24;
}

abbrev pub symbols_header_of : SymbolTable → SectionHeader
symbols_header_of t = symbols_header 1 (symbols_place t) (24 * t.count) 2 1

abbrev pub table_headers_of : SymbolTable → List SectionHeader
table_headers_of t =
    null_section
    ∷ (symbols_header_of t
    ∷ (strings_header 9 (names_place t) t.names ∷ (strings_header 17 (section_names_place t) (length section_names) ∷ [])))

-- its line in the map
abbrev pub line_of : SymbolTable → SymtabLine
line_of t = record { offset = symbols_place t; count = t.count }

-- what a table is made from: the objects, their places, and the definitions that are listed
abbrev pub objects_of : Names → List LoadedObject
objects_of n = n.placement.now.objects

abbrev pub places_of : Names → List Placed
places_of n = own_in_load_order n.placement.now.base n.placement.now.objects

abbrev pub where_of : Names → Where
where_of n = own_where n.placement.now.base n.placement.now.objects

abbrev pub listed_of : Names → List Meaning
listed_of n = meaning_views n.listed.now

abbrev pub entered_of : Names → List Meaning
entered_of n = entered (objects_of n) (listed_of n)

pub record AreNames (n : Names) : Type 0 where
  pub objects : n.placement.now.objects ≡ loaded_views n.objects.now
  pub kinds : AreLawfulKinds n.placement.now.objects
  pub within : All (λ m. LiesWithin (places_of n) (meaning_view m)) n.listed.now

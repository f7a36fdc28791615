-- A link map as a record of lists, and what each line says (docs/MAP.md).
use Rattle.std.specs.Prelude.{ℕ, List, Option, map}
use Rattle.elf_model.specs.declared.link_map.CommonLine.{CommonLine}
use Rattle.elf_model.specs.declared.link_map.DropLine.{DropLine}
use Rattle.elf_model.specs.declared.link_map.Definition.{Definition}
use Rattle.elf_model.specs.declared.link_map.GotLine.{GotLine}
use Rattle.elf_model.specs.declared.link_map.LinkMap.{LinkMap}
use Rattle.elf_model.specs.declared.link_map.ObjectLine.{ObjectLine}
use Rattle.elf_model.specs.declared.link_map.PlaceLine.{PlaceLine}
use Rattle.elf_model.specs.declared.link_map.SlotKind.{SlotKind}
use Rattle.elf_model.specs.declared.link_map.SlotLine.{SlotLine}
use Rattle.elf_model.specs.declared.link_map.SlotTarget.{SlotTarget}
use Rattle.elf_model.specs.declared.link_map.SymbolLine.{SymbolLine}
use Rattle.elf_model.specs.declared.link_map.SymtabLine.{SymtabLine}
use Rattle.elf_model.specs.declared.link_map.SlotTarget.TheVariants as target

pub record ObjectRow : Type 0 where
  pub object : ℕ
  pub item : ℕ
  pub offset : ℕ
  pub path : List ℕ

pub record PlaceRow : Type 0 where
  pub address : ℕ
  pub size : ℕ
  pub object : ℕ
  pub section : ℕ
  pub name : List ℕ

pub record CommonRow : Type 0 where
  pub address : ℕ
  pub size : ℕ
  pub align : ℕ
  pub name : List ℕ

pub data TargetRow : Type 0 where
  OfName : List ℕ → TargetRow
  OfLocal : ℕ → ℕ → TargetRow

pub record SlotRow : Type 0 where
  pub address : ℕ
  pub kind : SlotKind
  pub target : TargetRow

pub record SymbolRow : Type 0 where
  pub address : ℕ
  pub definition : Definition
  pub name : List ℕ

pub record MapRecord : Type 0 where
  pub version : ℕ
  pub objects : List ObjectRow
  pub drops : List DropLine
  pub places : List PlaceRow
  pub commons : List CommonRow
  pub got : Option GotLine
  pub slots : List SlotRow
  pub symbols : List SymbolRow
  pub symtab : Option SymtabLine

abbrev pub object_row : ObjectLine → ObjectRow
object_row l = record { object = l.object; item = l.item; offset = l.offset; path = l.path.items }

abbrev pub place_row : PlaceLine → PlaceRow
place_row l = record { address = l.address; size = l.size; object = l.object; section = l.section; name = l.name.items }

abbrev pub common_row : CommonLine → CommonRow
common_row l = record { address = l.address; size = l.size; align = l.align; name = l.name.items }

abbrev pub target_row : SlotTarget → TargetRow
target_row (target.Name name) = OfName name.items
target_row (target.Local object symbol) = OfLocal object symbol

abbrev pub slot_row : SlotLine → SlotRow
slot_row l = record { address = l.address; kind = l.kind; target = target_row l.target }

abbrev pub symbol_row : SymbolLine → SymbolRow
symbol_row l = record { address = l.address; definition = l.definition; name = l.name.items }

-- a link map as clauses see it
abbrev pub map_of : LinkMap → MapRecord
map_of m = record {
  version = m.version;
  objects = map object_row m.objects.items;
  drops = m.drops.items;
  places = map place_row m.places.items;
  commons = map common_row m.commons.items;
  got = m.got;
  slots = map slot_row m.slots.items;
  symbols = map symbol_row m.symbols.items;
  symtab = m.symtab;
}

-- What a map says, as it is read in place.
use Rattle.std.specs.Prelude.{ℕ, ◌<◌, ◌≡◌, List, None, Some, length, map, true}
use Rattle.elf_model.specs.Image.MapRecord.{MapRecord}
use Rattle.linkmap.specs.Borrowed.{object_row, place_row, common_row, slot_row, symbol_row}
use Rattle.linkmap.specs.SymbolRuns.{plain_line_at}
use Rattle.linkmap.specs.declared.borrowed.BorrowedMap.{BorrowedMap}
use Rattle.linkmap.specs.declared.fields.MapLine.{MapLine}
use Rattle.linkmap.specs.declared.fields.MapLine.TheVariants as line

-- a map as clauses see it
abbrev pub record_of : BorrowedMap → MapRecord
record_of m = record {
  version = m.version;
  objects = map object_row m.objects.items;
  drops = m.drops.items;
  places = map place_row m.places.items;
  commons = map common_row m.commons.items;
  got = m.got;
  slots = map slot_row m.slots.items;
  symbols = m.symbols.rows;
  symtab = m.symtab;
}

-- the bytes are behind the map's symbol lines, where it has some, more may follow, and all are read again
abbrev pub AreBehind : BorrowedMap → List ℕ → Type 0
AreBehind m bytes = 0 < length m.symbols.rows → m.symtab ≡ None → m.symbols.unkept ≡ true → m.symbols.rest ≡ bytes

-- a line that is read again is the first of a text, with a rest behind it
abbrev pub IsRead : MapLine → List ℕ → List ℕ → Type 0
IsRead (line.Plain s) text rest = plain_line_at text ≡ Some (symbol_row s, rest)
IsRead l text rest = Unit {0}

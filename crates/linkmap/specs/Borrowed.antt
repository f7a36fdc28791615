-- What the lines of a map say, as they are read in place.
use Rattle.std.specs.Cow.{cow_slice_items}
use Rattle.elf_model.specs.Image.MapRecord.{CommonRow, ObjectRow, OfLocal, OfName, PlaceRow, SlotRow, SymbolRow, TargetRow}
use Rattle.linkmap.specs.declared.borrowed.BorrowedCommon.{BorrowedCommon}
use Rattle.linkmap.specs.declared.borrowed.BorrowedObject.{BorrowedObject}
use Rattle.linkmap.specs.declared.borrowed.BorrowedPlace.{BorrowedPlace}
use Rattle.linkmap.specs.declared.borrowed.BorrowedSlot.{BorrowedSlot}
use Rattle.linkmap.specs.declared.borrowed.BorrowedSymbol.{BorrowedSymbol}
use Rattle.linkmap.specs.declared.borrowed.BorrowedTarget.{BorrowedTarget}
use Rattle.linkmap.specs.declared.borrowed.KeptSymbol.{KeptSymbol}
use Rattle.linkmap.specs.declared.borrowed.BorrowedTarget.TheVariants as target

abbrev pub object_row : BorrowedObject → ObjectRow
object_row l = record { object = l.object; item = l.item; offset = l.offset; path = cow_slice_items l.path }

abbrev pub place_row : BorrowedPlace → PlaceRow
place_row l = record { address = l.address; size = l.size; object = l.object; section = l.section; name = cow_slice_items l.name }

abbrev pub common_row : BorrowedCommon → CommonRow
common_row l = record { address = l.address; size = l.size; align = l.align; name = cow_slice_items l.name }

abbrev pub target_row : BorrowedTarget → TargetRow
target_row (target.Name name) = OfName (cow_slice_items name)
target_row (target.Local object symbol) = OfLocal object symbol

abbrev pub slot_row : BorrowedSlot → SlotRow
slot_row l = record { address = l.address; kind = l.kind; target = target_row l.target }

abbrev pub kept_row : KeptSymbol → SymbolRow
kept_row l = record { address = l.address; definition = l.definition; name = cow_slice_items l.name }

abbrev pub symbol_row : BorrowedSymbol → SymbolRow
symbol_row l = record { address = l.address; definition = l.definition; name = l.name.now }

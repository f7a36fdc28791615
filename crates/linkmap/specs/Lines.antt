-- A line of a map whose name is borrowed, as its text sees it.
use Rattle.elf_model.specs.Image.MapRecord.{OfLocal, OfName, TargetRow}
use Rattle.elf_model.specs.declared.references.Target.{Target}
use Rattle.elf_model.specs.declared.references.Target.TheVariants as target
use Rattle.elf_model.specs.Image.MapText.{Common, Drop, End, Got, Line, Object, Place, Slot, Symbol, Symtab, Version}
use Rattle.linkmap.specs.declared.line.Line as code
use Rattle.linkmap.specs.declared.line.Line.TheVariants as line

abbrev pub target_row_of : Target → TargetRow
target_row_of (target.Name name) = OfName name.now
target_row_of (target.Local symbol) = OfLocal symbol.object.0 symbol.symbol

abbrev pub line_view : code.Line → Line
line_view (line.Version n) = Version n
line_view (line.Object object item offset path) = Object (record { object = object; item = item; offset = offset; path = path.now })
line_view (line.Drop d) = Drop d
line_view (line.Place address size object section name) = Place (record { address = address; size = size; object = object; section = section; name = name.now })
line_view (line.Common address size align name) = Common (record { address = address; size = size; align = align; name = name.now })
line_view (line.Got g) = Got g
line_view (line.Slot address kind to) = Slot (record { address = address; kind = kind; target = target_row_of to })
line_view (line.Symbol address definition name) = Symbol (record { address = address; definition = definition; name = name.now })
line_view (line.Symtab t) = Symtab t
line_view line.End = End

-- Rows and tables as the definitions see them.
use Rattle.std.specs.Prelude.{List, map}
use Rattle.debug_image.specs.Tables as tables
use Rattle.debug_image.specs.declared.tables.Tables as code
use Rattle.debug_image.specs.declared.headers.HeaderRow.{HeaderRow}
use Rattle.debug_image.specs.declared.row.Row.{Row}

abbrev pub row_view : Row → tables.Row
row_view r = record { name = r.name.now; entry = r.entry }

abbrev pub row_views : List Row → List tables.Row
row_views rs = map row_view rs

abbrev pub header_view : HeaderRow → tables.HeaderRow
header_view r = record { title = r.title.now; header = r.header }

abbrev pub header_views : List HeaderRow → List tables.HeaderRow
header_views rs = map header_view rs

abbrev pub tables_view : code.Tables → tables.Tables
tables_view t = record {
  symbols = t.symbols.items;
  names = t.names.items;
  titles = t.titles.items;
  locals = t.locals;
  sections = header_views t.sections.items;
}

use Rattle.std.proofs.Common.{◌≡◌, ◌++◌, drop}
use Rattle.std.specs.List.{filter_map}
use Rattle.elf_model.specs.Link.Resolution.{symbols_from}
use Rattle.search.specs.Views.{loaded_view}
use Rattle.debug_image.specs.Layouts.{laid_in}
use Rattle.debug_image.specs.Symbols.{local_row}
use Rattle.debug_image.specs.Views.{row_views}
use Rattle.debug_image.proofs.symbol_rows.add_locals.Given as goal

abbrev pub invariant-loop-j : goal.invariant-loop-j
invariant-loop-j l =
    row_views l.rows.items ++ filter_map (local_row (laid_in l.layout)) (symbols_from l.number (loaded_view l.loaded) l.j (drop l.j l.entries))
    ≡ row_views l.fn.rows.items ++ filter_map (local_row (laid_in l.layout)) (symbols_from l.number (loaded_view l.loaded) 0 l.entries)

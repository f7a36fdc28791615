use Rattle.std.proofs.Common.{◌≡◌, ◌++◌, drop}
use Rattle.search.specs.Views.{loaded_views}
use Rattle.debug_image.specs.Layouts.{laid_in}
use Rattle.debug_image.specs.Symbols.{rows_from}
use Rattle.debug_image.specs.Views.{row_views}
use Rattle.debug_image.proofs.symbol_rows.local_rows.Given as goal

abbrev pub invariant-loop-k : goal.invariant-loop-k
invariant-loop-k l =
    row_views l.rows.items ++ rows_from (laid_in l.layout) l.k (drop l.k (loaded_views l.layout.objects.now))
    ≡ rows_from (laid_in l.layout) 0 (loaded_views l.layout.objects.now)

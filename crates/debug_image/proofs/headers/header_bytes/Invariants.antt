use Rattle.std.proofs.Common.{◌≡◌, ◌++◌, drop, length}
use Rattle.debug_image.specs.Tables.{headers, headers_from}
use Rattle.debug_image.specs.Views.{header_views}
use Rattle.debug_image.proofs.headers.header_bytes.Given as goal

abbrev pub invariant-loop-row : goal.invariant-loop-row
invariant-loop-row l =
    l.headers.items ++ headers_from (length l.titles.items) (header_views (drop l.row-index l.rows)) ≡ headers (header_views l.rows)

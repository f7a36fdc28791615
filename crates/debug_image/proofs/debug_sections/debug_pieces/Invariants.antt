use Rattle.std.proofs.Common.{◌≡◌}
use Rattle.std.specs.List.{filter_map, range_with_len}
use Rattle.placing.specs.Views.{piece_views}
use Rattle.search.specs.Views.{loaded_view}
use Rattle.debug_image.specs.DebugSections.{debug_piece}
use Rattle.debug_image.proofs.debug_sections.debug_pieces.Given as goal

abbrev pub invariant-loop-i : goal.invariant-loop-i
invariant-loop-i l =
    piece_views l.pieces.items ≡ filter_map (debug_piece l.number (loaded_view l.loaded)) (range_with_len 0 l.i)

use Rattle.std.proofs.Common.{◌≡◌, drop}
use Rattle.std.specs.List.{list_any}
use Rattle.elf_model.specs.Own.OwnLayout.{is_nonempty}
use Rattle.placing.specs.Views.{borrowed_views}
use Rattle.layout.proofs.segments.any_nonempty.Given as goal

abbrev pub invariant-loop-piece : goal.invariant-loop-piece
invariant-loop-piece l = list_any is_nonempty (borrowed_views (drop l.piece-index l.pieces)) ≡ list_any is_nonempty (borrowed_views l.pieces)

use Rattle.std.proofs.Common.{drop}
use Rattle.std.specs.Prelude.{All}
use Rattle.relocate.specs.Uses.{line_views}
use Rattle.linker.specs.Spelled.{FitsLines}
use Rattle.linker.proofs.spelled_lines.show_linkers.Given as goal

abbrev pub invariant-loop-line : goal.invariant-loop-line
invariant-loop-line l =
    All (FitsLines l.placement) (line_views (drop l.line-index l.linkers)) → All (FitsLines l.placement) (line_views l.linkers)

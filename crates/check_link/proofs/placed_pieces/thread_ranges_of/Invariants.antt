use Rattle.std.proofs.Common.{◌≡◌, ◌++◌, drop}
use Rattle.elf_model.specs.Link.Placement.{thread_ranges}
use Rattle.check_link.specs.Views.{placed_views}
use Rattle.check_link.proofs.placed_pieces.thread_ranges_of.Given as goal

abbrev pub invariant-loop-q : goal.invariant-loop-q
invariant-loop-q l =
    l.ranges.items ++ thread_ranges (placed_views (drop l.q-index l.placed)) ≡ thread_ranges (placed_views l.placed)

use Rattle.std.specs.Prelude.{◌≡◌, drop, map, max}
use Rattle.elf_model.specs.Link.LinkerValues.{end_of_pieces}
use Rattle.check_link.specs.PieceParts.{part_test}
use Rattle.check_link.specs.Views.{placed_view, placed_views}
use Rattle.check_link.proofs.bounds.end_of.Given as goal

abbrev pub invariant-loop-q : goal.invariant-loop-q
invariant-loop-q l = max l.end (end_of_pieces (part_test l.part) (map placed_view (drop l.q-index l.placed))) ≡ end_of_pieces (part_test l.part) (placed_views l.placed)

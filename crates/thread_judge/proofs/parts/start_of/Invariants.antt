use Rattle.std.specs.Prelude.{◌≡◌, drop, map}
use Rattle.elf_model.specs.Link.LinkerValues.{start_of_pieces}
use Rattle.elf_model.proofs.PieceBounds.{either_least}
use Rattle.thread_judge.specs.Parts.{part_test}
use Rattle.check_link.specs.Views.{placed_view, placed_views}
use Rattle.thread_judge.proofs.parts.start_of.Given as goal

abbrev pub invariant-loop-q : goal.invariant-loop-q
invariant-loop-q l = either_least l.start (start_of_pieces (part_test l.part) (map placed_view (drop l.q-index l.placed))) ≡ start_of_pieces (part_test l.part) (placed_views l.placed)

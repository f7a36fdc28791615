use Rattle.std.specs.Prelude.{◌≡◌, drop, map, max}
use Rattle.elf_model.specs.Link.LinkerValues.{end_of_pieces}
use Rattle.thread_judge.specs.Parts.{part_test}
use Rattle.check_link.specs.Views.{placed_view, placed_views}
use Rattle.thread_judge.proofs.parts.end_of.Given as goal

abbrev pub invariant-loop-q : goal.invariant-loop-q
invariant-loop-q l = max l.end (end_of_pieces (part_test l.part) (map placed_view (drop l.q-index l.placed))) ≡ end_of_pieces (part_test l.part) (placed_views l.placed)

use Rattle.std.specs.Prelude.{◌≡◌, drop, map}
use Rattle.elf_model.specs.Link.LinkerValues.{start_of_pieces}
use Rattle.elf_model.proofs.PieceBounds.{either_least}
use Rattle.judge_model.specs.Names.{is_some_zeros}
use Rattle.check_link.specs.Views.{placed_view, placed_views}
use Rattle.name_judge.proofs.nonempty.start_of_zeros.Given as goal

abbrev pub invariant-loop-q : goal.invariant-loop-q
invariant-loop-q l = either_least l.start (start_of_pieces is_some_zeros (map placed_view (drop l.q-index l.placed))) ≡ start_of_pieces is_some_zeros (placed_views l.placed)

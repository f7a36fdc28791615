use Rattle.std.specs.Prelude.{◌≡◌, drop, map, max}
use Rattle.elf_model.specs.Link.LinkerValues.{end_of_pieces}
use Rattle.check_link.specs.Views.{placed_view, placed_views}
use Rattle.judge_model.specs.Names.{is_some_small_data}
use Rattle.name_judge.proofs.nonempty.end_of_data.Given as goal

abbrev pub invariant-loop-q : goal.invariant-loop-q
invariant-loop-q l =
    max l.end (end_of_pieces is_some_small_data (map placed_view (drop l.q-index l.placed))) ≡ end_of_pieces is_some_small_data (placed_views l.placed)

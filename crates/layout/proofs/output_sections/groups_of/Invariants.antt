use Rattle.std.specs.Prelude.{◌≡◌, map, take}
use Rattle.elf_model.specs.Own.OwnLayout.{leaders}
use Rattle.layout.specs.Groups.{group, group_views}
use Rattle.placing.specs.Views.{piece_views}
use Rattle.layout.proofs.output_sections.groups_of.Given as goal

abbrev pub invariant-loop-k : goal.invariant-loop-k
invariant-loop-k l =
    group_views l.groups.items ≡ map (group (take l.k (piece_views l.pieces))) (leaders (piece_views l.pieces))

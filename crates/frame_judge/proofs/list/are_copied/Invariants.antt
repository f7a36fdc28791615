use Rattle.std.proofs.Common.{drop}
use Rattle.std.specs.Prelude.{All}
use Rattle.check_load.specs.Views.{loaded_views}
use Rattle.elf_model.proofs.Rests.{Left}
use Rattle.judge_model.specs.Frames.{IsCopiedBeside}
use Rattle.link_fields.specs.Fields.{HasFields}
use Rattle.link_fields.specs.Rests.{kept_in}
use Rattle.frame_judge.proofs.list.are_copied.Given as goal

abbrev pub invariant-loop-k : goal.invariant-loop-k
invariant-loop-k l =
    Left (All (IsCopiedBeside l.lines (kept_in l.drops (loaded_views l.objects)) l.address l.list) l.framed)
    (All (IsCopiedBeside l.lines (kept_in l.drops (loaded_views l.objects)) l.address l.list) (drop l.k l.framed))
    × HasFields (loaded_views l.objects) l.row.object l.row.row.items

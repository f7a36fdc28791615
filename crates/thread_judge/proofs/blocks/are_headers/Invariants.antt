use Rattle.std.proofs.Common.{drop}
use Rattle.std.specs.Prelude.{All, ◌↔◌}
use Rattle.check_link.specs.Views.{placed_views}
use Rattle.judge_model.specs.ThreadBlocks.{IsThreadHeader}
use Rattle.thread_judge.proofs.blocks.are_headers.Given as goal

abbrev pub invariant-loop-h : goal.invariant-loop-h
invariant-loop-h l = All (IsThreadHeader l.image (placed_views l.placed)) l.hs ↔ All (IsThreadHeader l.image (placed_views l.placed)) (drop l.h-index l.hs)

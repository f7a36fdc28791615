use Rattle.std.proofs.Common.{◌≡◌, ◌++◌, drop}
use Rattle.std.specs.Prelude.{filter}
use Rattle.check_link.specs.Views.{block_views}
use Rattle.judge_model.specs.Links.{has_common_line}
use Rattle.judge_stages.proofs.commons.lined_blocks.Given as goal

abbrev pub invariant-loop-block : goal.invariant-loop-block
invariant-loop-block l =
    block_views l.lined.items ++ filter (has_common_line l.lines) (block_views (drop l.block-index l.blocks))
    ≡ filter (has_common_line l.lines) (block_views l.blocks)

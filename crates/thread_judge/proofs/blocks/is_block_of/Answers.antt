use Rattle.std.proofs.Common.{◌≤◌, ◌^◌, ℕ, subst, sym}
use Rattle.check_link.specs.Views.{placed_views}
use Rattle.thread_judge.specs.Parts.{part_test}
use Rattle.thread_judge.proofs.Low.{low_end}
use Rattle.thread_judge.proofs.blocks.is_block_of.Goals as goal

pub ends_at-requires-clause-end : goal.ends_at-requires-clause-end
ends_at-requires-clause-end c =
    subst (λ (n : ℕ). n ≤ 2 ^ 47) (sym c.end_of.ensures) (low_end (part_test c.args.part) (placed_views c.args.placed.now) c.requires.pieces)

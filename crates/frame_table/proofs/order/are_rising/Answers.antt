use Rattle.std.proofs.lemmas.List.Sorted.{IsNonDecreasingBy-from_all_adjacent, all_adjacent_from_non_decreasing}
use Rattle.judge_model.specs.declared.frame_record.FrameRow.{FrameRow}
use Rattle.frame_table.proofs.order.are_rising.Goals as goal

pub returns : goal.returns
returns c = (
  λ t. IsNonDecreasingBy-from_all_adjacent (λ (row : FrameRow). row.function) c.args.rows.now (c.are_neighbours_rising.ensures.0 t),
  λ h. c.are_neighbours_rising.ensures.1 (all_adjacent_from_non_decreasing (λ (row : FrameRow). row.function) c.args.rows.now h),
)

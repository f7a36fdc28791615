use Rattle.std.proofs.Common.{◌≡◌, map}
use Rattle.std.specs.List.{range_with_len}
use Rattle.judge_model.specs.FrameTables.{row_at}
use Rattle.frame_table.proofs.reading.rows_of.Given as goal

abbrev pub invariant-loop-k : goal.invariant-loop-k
invariant-loop-k l = l.rows.items ≡ map (row_at l.start l.bytes) (range_with_len 0 l.k)

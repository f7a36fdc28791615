use Rattle.std.proofs.Common.{◌∙◌, List, [], ◌∷◌, ◌++◌, sym, arith}
use Rattle.std.proofs.lemmas.List.FromFn.{map-range_with_len_more}
use Rattle.judge_model.specs.FrameTables.{row_at}
use Rattle.judge_model.specs.declared.frame_record.FrameRow.{FrameRow}
use Rattle.frame_table.proofs.reading.rows_of.Goals as goal

pub loop-k-preserved : goal.loop-k-preserved
loop-k-preserved c =
    c.in_ok-push.ensures.items
    ∙ (λ j. c.loop-k.invariant j ++ c.row_at.ensures j ∷ [])
    ∙ sym (map-range_with_len_more (row_at c.args.start c.args.bytes.now) 0 c.loop-k.k c.loop-k.k (omega arith))

use Rattle.std.proofs.Common.{◌≡◌, drop}
use Rattle.judge_model.specs.Words.{next_value}
use Rattle.foreign_words.specs.Says.{row_views}
use Rattle.foreign_words.proofs.said.next_value.Given as goal

abbrev pub invariant-loop-row : goal.invariant-loop-row
invariant-loop-row l = next_value (row_views (drop l.row-index l.rows)) l.word ≡ next_value (row_views l.rows) l.word

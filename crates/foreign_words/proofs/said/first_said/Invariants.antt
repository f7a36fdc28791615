use Rattle.std.proofs.Common.{◌≡◌, drop}
use Rattle.judge_model.specs.Words.{first_said}
use Rattle.foreign_words.specs.Says.{row_views}
use Rattle.foreign_words.proofs.said.first_said.Given as goal

abbrev pub invariant-loop-row : goal.invariant-loop-row
invariant-loop-row l = first_said (row_views (drop l.row-index l.rows)) l.word ≡ first_said (row_views l.rows) l.word

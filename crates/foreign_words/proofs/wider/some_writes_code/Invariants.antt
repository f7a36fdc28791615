use Rattle.std.proofs.Common.{◌≡◌, drop}
use Rattle.std.specs.List.{list_any}
use Rattle.judge_model.specs.Words.{is_writes_code}
use Rattle.foreign_words.specs.Says.{says_views}
use Rattle.foreign_words.proofs.wider.some_writes_code.Given as goal

abbrev pub invariant-loop-says : goal.invariant-loop-says
invariant-loop-says l = list_any is_writes_code (says_views (drop l.says-index l.all)) ≡ list_any is_writes_code (says_views l.all)

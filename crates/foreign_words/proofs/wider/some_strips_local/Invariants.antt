use Rattle.std.proofs.Common.{◌≡◌, drop}
use Rattle.std.specs.List.{list_any}
use Rattle.judge_model.specs.Words.{is_strips_local}
use Rattle.foreign_words.specs.Says.{says_views}
use Rattle.foreign_words.proofs.wider.some_strips_local.Given as goal

abbrev pub invariant-loop-says : goal.invariant-loop-says
invariant-loop-says l = list_any is_strips_local (says_views (drop l.says-index l.all)) ≡ list_any is_strips_local (says_views l.all)

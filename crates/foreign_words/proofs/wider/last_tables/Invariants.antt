use Rattle.std.proofs.Common.{◌≡◌, drop}
use Rattle.std.specs.List.{filter_map, last_or}
use Rattle.judge_model.specs.Words.{tables_in, last_of}
use Rattle.foreign_words.specs.Says.{says_views}
use Rattle.foreign_words.proofs.wider.last_tables.Given as goal

abbrev pub invariant-loop-says : goal.invariant-loop-says
invariant-loop-says l =
    last_or l.last (filter_map tables_in (says_views (drop l.says-index l.all))) ≡ last_of tables_in (says_views l.all)

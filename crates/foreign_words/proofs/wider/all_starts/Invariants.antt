use Rattle.std.proofs.Common.{◌≡◌, ◌++◌, drop, map}
use Rattle.std.specs.List.{filter_map}
use Rattle.judge_model.specs.Words.{start_in}
use Rattle.foreign_words.specs.Says.{says_views, start_view}
use Rattle.foreign_words.proofs.wider.all_starts.Given as goal

abbrev pub invariant-loop-says : goal.invariant-loop-says
invariant-loop-says l =
    map start_view l.starts.items ++ filter_map start_in (says_views (drop l.says-index l.all))
    ≡ filter_map start_in (says_views l.all)

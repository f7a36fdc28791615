use Rattle.std.proofs.Common.{◌≡◌, bit_or, drop}
use Rattle.std.specs.Prelude.{fold}
use Rattle.std.specs.List.{filter_map}
use Rattle.judge_model.specs.Words.{feature_in}
use Rattle.foreign_words.specs.Says.{says_views}
use Rattle.foreign_words.proofs.wider.all_features.Given as goal

abbrev pub invariant-loop-says : goal.invariant-loop-says
invariant-loop-says l =
    fold bit_or l.features (filter_map feature_in (says_views (drop l.says-index l.all)))
    ≡ fold bit_or 0 (filter_map feature_in (says_views l.all))

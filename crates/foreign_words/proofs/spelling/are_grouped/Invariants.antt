use Rattle.std.proofs.Common.{◌≡◌, drop, false}
use Rattle.foreign_words.specs.Says.{says_views}
use Rattle.foreign_words.specs.Spelled.{are_grouped}
use Rattle.foreign_words.proofs.spelling.are_grouped.Given as goal

abbrev pub invariant-loop-says : goal.invariant-loop-says
invariant-loop-says l = are_grouped l.in_group (says_views (drop l.says-index l.all)) ≡ are_grouped false (says_views l.all)

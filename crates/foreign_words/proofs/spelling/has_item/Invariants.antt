use Rattle.std.proofs.Common.{◌≡◌, drop}
use Rattle.foreign_words.specs.Says.{says_views}
use Rattle.foreign_words.specs.Spelled.{has_item}
use Rattle.foreign_words.proofs.spelling.has_item.Given as goal

abbrev pub invariant-loop-says : goal.invariant-loop-says
invariant-loop-says l = has_item (says_views (drop l.says-index l.all)) ≡ has_item (says_views l.all)

use Rattle.std.proofs.Common.{◌≡◌, ◌++◌, drop}
use Rattle.elf_model.specs.Inputs.Files.{words_of}
use Rattle.foreign_words.specs.Says.{says_views}
use Rattle.foreign_words.specs.Spelled.{spelling}
use Rattle.foreign_words.proofs.spelling.spelled_words.Given as goal

abbrev pub invariant-loop-says : goal.invariant-loop-says
invariant-loop-says l = words_of l.words.items ++ spelling (says_views (drop l.says-index l.all)) ≡ spelling (says_views l.all)

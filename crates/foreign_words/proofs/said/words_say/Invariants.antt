use Rattle.std.proofs.Common.{◌≡◌, length}
use Rattle.std.specs.Prelude.{All}
use Rattle.elf_model.specs.Inputs.Files.{words_of}
use Rattle.judge_model.specs.Words.{said}
use Rattle.foreign_words.specs.Said.{with_said}
use Rattle.foreign_words.specs.Says.{says_views}
use Rattle.foreign_words.specs.Sound.{IsSound}
use Rattle.foreign_words.proofs.said.words_say.Given as goal

abbrev pub invariant-words : goal.invariant-words
invariant-words l = record {
  exact : with_said (says_views l.said.items) (said (words_of l.rest)) ≡ said (words_of l.initial.words);
  sound : All IsSound (says_views l.said.items);
}

abbrev pub decreases-words : goal.decreases-words
decreases-words l = length l.rest

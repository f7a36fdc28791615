use Rattle.std.proofs.Common.{◌≡◌, ◌++◌, length}
use Rattle.elf_model.specs.Inputs.Files.{words_of}
use Rattle.debug_main.specs.Words.{plain_words}
use Rattle.debug_main.proofs.words.add_plain.Given as goal

abbrev pub invariant-loop-first : goal.invariant-loop-first
invariant-loop-first l = words_of l.all.items ++ plain_words (words_of l.rest) ≡ words_of l.fn.all.items ++ plain_words (words_of l.words)

abbrev pub decreases-loop-first : goal.decreases-loop-first
decreases-loop-first l = length l.rest

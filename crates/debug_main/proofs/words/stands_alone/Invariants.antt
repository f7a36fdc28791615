use Rattle.std.proofs.Common.{◌≡◌, length}
use Rattle.elf_model.specs.Inputs.Files.{words_of}
use Rattle.debug_main.specs.Words.{stands_alone}
use Rattle.debug_main.proofs.words.stands_alone.Given as goal

abbrev pub invariant-loop-first : goal.invariant-loop-first
invariant-loop-first l = stands_alone l.wanted (words_of l.rest) ≡ stands_alone l.wanted (words_of l.words)

abbrev pub decreases-loop-first : goal.decreases-loop-first
decreases-loop-first l = length l.rest

use Rattle.std.proofs.Common.{◌+◌, ◌≤◌, length}
use Rattle.elf_model.specs.Inputs.Files.{words_of}
use Rattle.command.specs.PlaceViews.{state_of}
use Rattle.command.proofs.Ahead.{IsAhead}
use Rattle.command.proofs.plan_reader.read_phrases.Given as goal

-- the plan so far is that of the phrases so far, of which there are no more than words
abbrev pub invariant-phrases : goal.invariant-phrases
invariant-phrases l = record {
  ahead : IsAhead (words_of l.fn.words) (state_of l.plan l.place) (words_of l.rest);
  few : l.place.groups + length l.rest ≤ length l.fn.words;
}

abbrev pub decreases-phrases : goal.decreases-phrases
decreases-phrases l = length l.rest

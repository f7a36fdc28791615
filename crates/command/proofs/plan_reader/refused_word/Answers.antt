use Rattle.elf_model.specs.Inputs.Files.{words_of}
use Rattle.command.proofs.RefusedPhrases.{refused_at, refused_together}
use Rattle.command.proofs.plan_reader.refused_word.Goals as goal

pub returns-in_default : goal.returns-in_default
returns-in_default c = λ f is. refused_together (words_of c.args.words.now) f c.in_default.ensures.read is

pub returns-in_default-fault : goal.returns-in_default-fault
returns-in_default-fault c = λ f is.
    refused_at (words_of c.args.words.now) c.read_phrases.new.at c.in-Err.fault f (c.in-Err.ensures.word c.in_default-fault.not-Memory) is

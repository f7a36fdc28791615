use Rattle.command.proofs.Texts.{after_is}
use Rattle.foreign_words.proofs.numbers.after.Goals as goal

pub returns : goal.returns
returns c = after_is c.args.text.now c.args.word.now _ c.strip_prefix.ensures.cases

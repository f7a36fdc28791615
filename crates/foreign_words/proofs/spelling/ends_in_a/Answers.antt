use Rattle.std.specs.Prelude.{codes}
use Rattle.std.proofs.lemmas.Str.Pattern.{ends_text}
use Rattle.foreign_words.proofs.spelling.ends_in_a.Goals as goal

pub returns : goal.returns
returns c = ends_text c.ends_with.result (codes ".a") c.args.path.now c.ends_with.ensures.cases

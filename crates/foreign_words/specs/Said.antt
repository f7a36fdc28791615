-- What words say, behind what those before them say.
use Rattle.std.specs.Prelude.{List, ◌++◌, Option, option_map}
use Rattle.judge_model.specs.Words.{Says}

abbrev pub with_said : List Says → Option (List Says) → Option (List Says)
with_said front rest = option_map (λ ss. front ++ ss) rest

use Rattle.std.proofs.Common.{◌∙◌, ℕ, List, ap}
use Rattle.linker.specs.NameKeys.{name_key}
use Rattle.linker.proofs.NameKeyLaws.{key_of_front}
use Rattle.linker.proofs.name_order.key.Goals as goal

pub returns-in-Some-clause-key : goal.returns-in-Some-clause-key
returns-in-Some-clause-key c =
    c.whole_key.ensures ∙ (ap (λ (xs : List ℕ). name_key xs) c.in-Some.ensures.cases.0 ∙ key_of_front 7 c.args.name.now)

use Rattle.std.proofs.Common.{rules, ◌∙◌}
use Rattle.std.proofs.lemmas.Int.{to_z-of_z}
use Rattle.std.specs.Int.{w64}
use Rattle.field_judge.proofs.OneField.{value_by}
use Rattle.field_judge.proofs.formulas.value_of.Goals as goal

pub returns : goal.returns
returns c = λ x pointer are slot.
    value_by c.args.formula x pointer c.base_of.result c.less_of.result c.shifted.result _ are.offset
    (to_z-of_z w64 c.args.terms.addend (search rules) ∙ are.addend) (c.base_of.ensures x pointer are slot)
    (c.less_of.ensures x pointer are) c.shifted.ensures

use Rattle.debug_image.proofs.FieldLawSteps.{nowhere_holds, others_hold, values_hold}
use Rattle.debug_image.proofs.laws.fields_have_their_values.Goals as goal

pub returns-clause-values : goal.returns-clause-values
returns-clause-values c = values_hold

pub returns-clause-nowhere : goal.returns-clause-nowhere
returns-clause-nowhere c = nowhere_holds

pub returns-clause-others : goal.returns-clause-others
returns-clause-others c = others_hold

use Rattle.name_judge.proofs.SlotSteps.{among_zeros, before_zeros}
use Rattle.std.proofs.lemmas.Bool.{false≢true}
use Rattle.std.proofs.Common.{◌∙◌, sym}
use Rattle.name_judge.proofs.slot_ends.further_slot.Goals as goal

pub returns-then-is_in_zeros : goal.returns-then-is_in_zeros
returns-then-is_in_zeros c = λ v. among_zeros c.args.zeros c.args.end c.args.slot v (c.is_in_zeros.ensures.0 c.if-is_in_zeros.true)

pub returns : goal.returns
returns c = λ v.
    before_zeros c.args.zeros _ c.args.end c.args.slot v c.max.ensures
    (λ among. false≢true (sym c.if-is_in_zeros.false ∙ c.is_in_zeros.ensures.1 among))

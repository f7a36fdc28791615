use Rattle.std.proofs.Common.{◌∙◌, sym}
use Rattle.field_judge.proofs.OneField.{slot_as, value_there}
use Rattle.field_judge.specs.Kinds.{kind_view}
use Rattle.field_judge.proofs.fields.asked_slot.Goals as goal

pub returns-in-Some-value : goal.returns-in-Some-value
returns-in-Some-value c = λ g at given.
    let v = value_there g.value c.in-Some-value.value (sym c.in-Some-value.is ∙ given.value) in
    slot_as c.args.image.now c.args.taken.now g (kind_view c.args.kind.now) c.in-Some.slot_kind c.right_slot.result (sym c.in-Some.ensures) at
    (c.right_slot.ensures g v.v at given v.is v.reduced)

use Rattle.field_judge.proofs.OneField.{no_slot, slot_only}
use Rattle.field_judge.specs.Kinds.{kind_view}
use Rattle.field_judge.proofs.fields.right_slot.Goals as goal

pub returns-then-has_slot : goal.returns-then-has_slot
returns-then-has_slot c = λ g v at given means value.
    slot_only c.args.image.now c.args.taken.now g (kind_view c.args.kind.now) c.args.slot_kind _ c.has_slot.result
    c.image-program.ensures.program (c.has_slot.ensures g v given means value) (λ u n low h. c.slot_of.ensures g u n given low h)
    c.if-has_slot.true at

pub returns-else-has_slot : goal.returns-else-has_slot
returns-else-has_slot c = λ g v at given means value.
    no_slot c.args.image.now c.args.taken.now g (kind_view c.args.kind.now) c.args.slot_kind c.has_slot.result
    (c.has_slot.ensures g v given means value) c.if-has_slot.false at

use Rattle.std.proofs.Common.{Option, subst}
use Rattle.std.specs.Prelude.{◌↔◌, IsTrue}
use Rattle.elf_model.specs.declared.link_map.SlotKind.{SlotKind}
use Rattle.field_judge.proofs.OneField.{plain_value}
use Rattle.field_judge.specs.Given.{HoldsPlainIn}
use Rattle.field_judge.specs.Kinds.{kind_view}
use Rattle.field_judge.proofs.fields.holds_plain.Goals as goal

pub returns-in-Some : goal.returns-in-Some
returns-in-Some c = λ g v given means value.
    subst
    (λ (o : Option SlotKind). IsTrue c.has_slot.result ↔ HoldsPlainIn c.args.image.now c.args.taken.now g (kind_view c.args.kind.now) o)
    c.in-Some.ensures (c.has_slot.ensures g v given means value)

pub returns-in-None : goal.returns-in-None
returns-in-None c = λ g v given means value.
    subst
    (λ (o : Option SlotKind). IsTrue c.holds_value.result ↔ HoldsPlainIn c.args.image.now c.args.taken.now g (kind_view c.args.kind.now) o)
    c.in-None.ensures
    (plain_value c.args.image.now c.args.taken.now g (kind_view c.args.kind.now) v c.holds_value.result means
    (c.holds_value.ensures g v given value))

use Rattle.std.proofs.Common.{◌≡◌, ◌∙◌, subst, sym}
use Rattle.elf_model.specs.declared.link_map.SlotKind.{SlotKind}
use Rattle.field_judge.proofs.LetterLaws.{nothing_added}
use Rattle.field_judge.specs.Given.{pointer_of, slot_value}
use Rattle.field_judge.proofs.fields.slot_value.Goals as goal

pub returns-in-Thread : goal.returns-in-Thread
returns-in-Thread c = λ image v value pointer.
    subst (λ (k : SlotKind). c.shifted.result ≡ slot_value image k v) (sym c.in-Thread.is)
    (c.shifted.ensures v (pointer_of image) value pointer ∙ nothing_added v (pointer_of image))

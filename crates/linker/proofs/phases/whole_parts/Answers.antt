use Rattle.std.proofs.Common.{◌∙◌, map, subst, sym}
use Rattle.elf_model.specs.Link.Pieces.{AreLawfulKinds}
use Rattle.layout.specs.Placements.{Basis}
use Rattle.relocate.specs.Values.{slot_value_of, where_in}
use Rattle.linker.proofs.phases.whole_parts.Goals as goal

pub slot_values-requires-clause-kinds : goal.slot_values-requires-clause-kinds
slot_values-requires-clause-kinds c =
    subst (λ (b : Basis). AreLawfulKinds b.objects) (sym c.requires.placed) c.requires.linkable.laid_out.referred.resolved.kinds

pub parts_of-requires-clause-values : goal.parts_of-requires-clause-values
parts_of-requires-clause-values c =
    c.in_ok-values.ensures
    ∙ (λ i. map (slot_value_of (c.requires.same i) (where_in (c.requires.placed i))) ((c.requires.slots i).slots))

use Rattle.std.proofs.Common.{◌≤◌, ◌^◌, ◌∙◌, ap, subst, sym}
use Rattle.std.specs.Prelude.{All}
use Rattle.elf_model.specs.Own.OwnLayout.{own_placed, placed_end}
use Rattle.layout.specs.Placements.{Basis}
use Rattle.debug_image.proofs.link_tables.link_sections.Goals as goal

pub sections-requires : goal.sections-requires
sections-requires c =
    let made = c.parts.ensures.parts in
    subst (All (λ q. placed_end q ≤ 2 ^ 46)) (sym (c.places.ensures ∙ ap (λ (b : Basis). own_placed b.base b.objects) made.placed))
    made.not_too_large.ends

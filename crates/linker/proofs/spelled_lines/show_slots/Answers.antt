use Rattle.std.proofs.Common.{◌∙◌, ◌+◌, ap, arith, subst}
use Rattle.std.specs.Prelude.{All}
use Rattle.elf_model.specs.Image.MapText.{FitsTarget}
use Rattle.elf_model.specs.Own.OwnLayout.{got_piece, own_address}
use Rattle.elf_model.specs.Link.Slots.{Request, slots}
use Rattle.got_tls.specs.Views.{Got}
use Rattle.own_link.proofs.OwnSlots.{slots_end, slots_fit}
use Rattle.linker.proofs.spelled_lines.show_slots.Goals as goal

pub returns : goal.returns
returns c =
    let b = c.args.placement.now in
    let end = slots_end b.base b.objects c.requires.kinds c.requires.fits in
    slots_fit (own_address b.base b.objects (got_piece b.objects) + 8) (slots b.objects) (omega (arith, end))
    (subst (All (λ (q : Request). FitsTarget q.target)) (c.slots.ensures ∙ ap (λ (g : Got). g.slots) c.requires.made) c.show_targets.ensures)

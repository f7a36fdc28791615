use Rattle.std.proofs.Common.{◌≡◌, ◌∙◌, ap, arith, length, map, sym}
use Rattle.std.proofs.lemmas.List.{length-map}
use Rattle.elf_model.specs.Image.MapRecord.{slot_row}
use Rattle.elf_model.specs.Link.Slots.{slots}
use Rattle.got_tls.specs.Views.{Got, slot_view}
use Rattle.linker.proofs.SlotLines.{slots_low, slots_none}
use Rattle.linker.proofs.slot_lines.slot_lines.Goals as goal

pub returns-in_default : goal.returns-in_default
returns-in_default c =
    let b = c.args.placement.now in
    ap (map slot_row) c.new.ensures.items ∙ slots_none b.base b.objects (sym c.got.ensures ∙ c.in_default.is)

pub lines_from-requires : goal.lines_from-requires
lines_from-requires c =
    let b = c.args.placement.now in
    let count : length c.slots.result.now ≡ length (slots b.objects) =
    sym (length-map c.slots.result.now slot_view) ∙ ap length (c.slots.ensures ∙ ap (λ (g : Got). g.slots) c.requires.made) in
    let low = slots_low b.base b.objects c.requires.kinds c.requires.fits c.in-Some.got (sym c.got.ensures ∙ c.in-Some.is) in
    omega (arith, count, low)

use Rattle.std.proofs.Common.{◌≡◌, ◌∙◌, List, ap, arith, length, subst, sym}
use Rattle.std.specs.Io.KnownBytes.{Appends}
use Rattle.std.specs.List.{flat_map}
use Rattle.std.proofs.lemmas.List.{length-map}
use Rattle.elf_model.specs.Image.MapRecord.{SlotRow}
use Rattle.elf_model.specs.Image.MapText.{slot_text}
use Rattle.elf_model.specs.Link.Slots.{slots}
use Rattle.got_tls.specs.Views.{Got, slot_view}
use Rattle.linker.proofs.Behind.{nothing_put}
use Rattle.linker.proofs.SlotLines.{slots_low, slots_none}
use Rattle.linker.proofs.own_text.put_slots.Goals as goal

pub returns-in-None : goal.returns-in-None
returns-in-None g c =
    let b = c.args.placement.now in
    subst (λ (rows : List SlotRow). Appends (g.T.LineSink.told c.args.text.now) (g.T.LineSink.told c.args.text.now) (flat_map slot_text rows))
    (slots_none b.base b.objects (sym c.got.ensures ∙ c.in-None.is)) (nothing_put (g.T.LineSink.told c.args.text.now))

pub put_slots_from-requires : goal.put_slots_from-requires
put_slots_from-requires g c =
    let b = c.args.placement.now in
    let count : length c.slots.result.now ≡ length (slots b.objects) =
    sym (length-map c.slots.result.now slot_view) ∙ ap length (c.slots.ensures ∙ ap (λ (g : Got). g.slots) c.requires.made) in
    let low = slots_low b.base b.objects c.requires.kinds c.requires.fits c.in-Some.got (sym c.got.ensures ∙ c.in-Some.is) in
    omega (arith, count, low)

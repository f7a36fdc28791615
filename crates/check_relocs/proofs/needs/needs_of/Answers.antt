use Rattle.std.proofs.Common.{◌≡◌, ◌∙◌, Bool, List, ap, arith, false, length, refl, sym}
use Rattle.std.proofs.lemmas.List.{length-map, length-replicate}
use Rattle.elf_model.specs.Image.MapRecord.{SlotRow}
use Rattle.check_relocs.specs.KnownSlots.{mark_at}
use Rattle.check_relocs.proofs.NeedSteps.{gained_all, no_marks}
use Rattle.check_relocs.proofs.needs.needs_of.Goals as goal

pub returns : goal.returns
returns c =
    let b = c.args.bindings.now in
    let lines = c.lines.result.now in
    let count = ap (λ (l : List Bool). length l) c.in_ok-asked.ensures in
    let made = length-replicate (length lines) false in
    let rows : length lines ≡ length b.places.slots = sym (length-map lines _) ∙ ap (λ (rs : List SlotRow). length rs) (c.lines.ensures ∙ c.slots.ensures.rows) in
    let long : length c.in_ok-asked.asked.items ≡ length b.places.slots = omega (arith, count, made, rows) in
    gained_all b.objects b.places.slots (record { got = false; unserved = false; asked = c.in_ok-asked.asked }) c.add_objects.new.needs refl refl
    (λ i. ap (λ (l : List Bool). mark_at l i) c.in_ok-asked.ensures ∙ no_marks (length lines) i) long c.in_ok-add_objects.ensures

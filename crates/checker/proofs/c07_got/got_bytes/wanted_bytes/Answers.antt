use Rattle.std.proofs.Common.{◌≡◌, ◌∙◌, ◌++◌, List, ℕ, ap}
use Rattle.byteview.proofs.NumberLaws.{low_first_is}
use Rattle.byteview.specs.Numbers.{le_bytes}
use Rattle.elf_model.specs.Link.Slots.{slot_bytes}
use Rattle.checker.proofs.GotSteps.{bytes_more}
use Rattle.checker.proofs.c07_got.got_bytes.wanted_bytes.Goals as goal

pub loop-line-preserved : goal.loop-line-preserved
loop-line-preserved c =
    let old = c.loop-line.bytes.items in
    let here : c.to_le_bytes.result ≡ le_bytes 8 c.slot_value-value.result = c.to_le_bytes.ensures ∙ low_first_is 8 c.slot_value-value.result in
    bytes_more (slot_bytes c.args.bindings.now.objects c.args.bindings.now.places) c.args.lines.now c.loop-line.line-index c.line-item.result c.loop-line-test.true
    c.line-item.is old c.extend_from_slice-in-loop-line.new.self.items _
    (c.in_ok-extend_from_slice-2.ensures.items ∙ ap (λ (bs : List ℕ). old ++ bs) (here ∙ ap (le_bytes 8) c.slot_value-value.ensures)) c.loop-line.invariant

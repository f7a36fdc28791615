use Rattle.std.proofs.Common.{arith}
use Rattle.elf_model.specs.Image.MapText.{FitsTarget}
use Rattle.elf_model.specs.Link.Slots.{Request}
use Rattle.got_tls.specs.Views.{slot_view}
use Rattle.linker.proofs.Spellings.{none_left, views_fit}
use Rattle.linker.proofs.spelled_lines.show_targets.Goals as goal

pub loop-slot-preserved : goal.loop-slot-preserved
loop-slot-preserved c = λ rest.
    c.loop-slot.invariant
    (views_fit (λ (q : Request). FitsTarget q.target) slot_view c.args.slots.now c.loop-slot.slot-index _ c.loop-slot-test.true c.show_target.ensures rest)

pub returns : goal.returns
returns c =
    let past = c.loop-slot-test.false in
    c.loop-slot.invariant (none_left (λ (q : Request). FitsTarget q.target) slot_view c.args.slots.now c.loop-slot.slot-index (omega (arith, past)))

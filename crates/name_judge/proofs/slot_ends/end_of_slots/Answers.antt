use Rattle.std.proofs.Common.{◌≤◌, arith}
use Rattle.std.specs.Prelude.{All}
use Rattle.name_judge.proofs.ClearSteps.{noted_all, noted_more, noted_none}
use Rattle.name_judge.specs.Clear.{IsSlotBy}
use Rattle.name_judge.proofs.slot_ends.end_of_slots.Goals as goal

pub loop-slot-init : goal.loop-slot-init
loop-slot-init c = λ v. noted_none (IsSlotBy c.args.zeros v) c.args.slots.now (0 ≤ v) (omega arith)

pub loop-slot-preserved : goal.loop-slot-preserved
loop-slot-preserved c = λ v.
    noted_more (IsSlotBy c.args.zeros v) c.args.slots.now (c.loop-slot.end ≤ v) (c.further_slot-end.result ≤ v)
    (All (IsSlotBy c.args.zeros v) c.args.slots.now) c.loop-slot.slot-index _ c.loop-slot-test.true (c.further_slot-end.ensures v)
    (c.loop-slot.invariant v)

pub returns : goal.returns
returns c = record {
  told = λ v.
      noted_all (IsSlotBy c.args.zeros v) c.args.slots.now (c.loop-slot.end ≤ v) (All (IsSlotBy c.args.zeros v) c.args.slots.now)
      c.loop-slot.slot-index (omega (arith, c.loop-slot-test.false)) (c.loop-slot.invariant v);
}

use Rattle.std.proofs.Common.{◌≡◌, ◌<◌, true, false}
use Rattle.std.specs.Prelude.{All}
use Rattle.elf_model.specs.Image.MemoryImage.{loads}
use Rattle.elf_model.specs.Link.Placement.{LiesInSegment}
use Rattle.elf_model.specs.declared.thing.Thing.{Thing}
use Rattle.elf_model.proofs.Rests.{all_more, all_stop}
use Rattle.check_places.proofs.c06_rights.nonempty_lie.Goals as goal

pub loop-thing-preserved : goal.loop-thing-preserved
loop-thing-preserved c =
    all_more (All (λ (t : Thing). 0 < t.size → LiesInSegment (loads c.args.memory.now) t) c.args.things.now)
    (λ (t : Thing). 0 < t.size → LiesInSegment (loads c.args.memory.now) t) c.args.things.now c.loop-thing.thing-index _
    c.loop-thing-test.true (c.lies_if_nonempty.ensures.0 c.if-not-lies_if_nonempty.false) c.loop-thing.invariant

pub returns-then-not-lies_if_nonempty : goal.returns-then-not-lies_if_nonempty
returns-then-not-lies_if_nonempty c = (
  λ e. absurd (let f : false ≡ true = e in cc),
  λ h. absurd
      (all_stop (All (λ (t : Thing). 0 < t.size → LiesInSegment (loads c.args.memory.now) t) c.args.things.now)
      (λ (t : Thing). 0 < t.size → LiesInSegment (loads c.args.memory.now) t) c.args.things.now c.loop-thing.thing-index _
      c.loop-thing-test.true
      (λ lies. let f : false ≡ true = c.if-not-lies_if_nonempty.ensures.1 lies in cc) c.loop-thing.invariant h),
)

use Rattle.std.specs.Prelude.{All}
use Rattle.elf_model.specs.Image.MemoryImage.{loads}
use Rattle.elf_model.specs.Image.RightLink.{HoldsInitial}
use Rattle.elf_model.proofs.Rests.{all_more}
use Rattle.checker.proofs.c08_thread_block.hold_initial.Goals as goal

pub loop-header-preserved : goal.loop-header-preserved
loop-header-preserved c =
    all_more (All (HoldsInitial (loads c.args.memory.now)) c.args.headers.now) (HoldsInitial (loads c.args.memory.now)) c.args.headers.now
    c.loop-header.header-index _ c.loop-header-test.true (c.holds_initial.ensures.0 c.if-not-holds_initial.false) c.loop-header.invariant

use Rattle.elf_model.specs.Image.MemoryImage.{loads}
use Rattle.checker.proofs.ThreadBlocks.{enclosed_if}
use Rattle.checker.proofs.c08_thread_block.holds_initial.Goals as goal

pub returns : goal.returns
returns c =
    let h = c.args.header.now in
    enclosed_if (loads c.args.memory.now) h.p_vaddr h.p_filesz c.enclosing.result c.is_some.result c.is_some.ensures c.if-header-eq0.false
    c.enclosing.ensures.found c.enclosing.ensures.only

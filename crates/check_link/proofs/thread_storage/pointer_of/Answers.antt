use Rattle.elf_model.proofs.RoundedUp.{pointer_is_rounded}
use Rattle.check_link.proofs.thread_storage.pointer_of.Goals as goal

pub returns : goal.returns
returns c = pointer_is_rounded c.args.block.now.start c.args.block.now.size c.args.block.now.align c.requires

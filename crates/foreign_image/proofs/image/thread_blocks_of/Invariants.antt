use Rattle.std.proofs.Common.{◌≡◌, ◌++◌, drop}
use Rattle.std.specs.Prelude.{filter}
use Rattle.elf_model.specs.Image.MemoryImage.{is_thread_block}
use Rattle.foreign_image.proofs.image.thread_blocks_of.Given as goal

abbrev pub invariant-loop-header : goal.invariant-loop-header
invariant-loop-header l = l.blocks.items ++ filter is_thread_block (drop l.header-index l.headers) ≡ filter is_thread_block l.headers

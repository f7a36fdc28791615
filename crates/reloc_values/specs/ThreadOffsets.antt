-- Where the thread pointer stands (ELF Handling For Thread-Local Storage, variant II: the block lies below the thread pointer).
use Rattle.std.specs.Prelude.{ℕ, ◌+◌}
use Rattle.elf_model.specs.Link.Placement.{round_up}
use Rattle.elf_model.specs.declared.tls_block.TlsBlock.{TlsBlock}

-- the thread pointer: where the block's beginning and its size, up to a multiple of its alignment, lead
abbrev pub thread_pointer : TlsBlock → ℕ
thread_pointer b = b.start + round_up b.align b.size

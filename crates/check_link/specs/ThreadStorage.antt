-- The alignment of the block of thread-local storage, and the thread pointer, as the code has them.
use Rattle.std.specs.Prelude.{ℕ, ◌+◌, ◌%◌, ◌^◌, cond, max, List, unwrap_or}
use Rattle.elf_model.specs.Link.Pieces.{is_thread_piece}
use Rattle.elf_model.specs.Link.Placement.{Placed, round_up}
use Rattle.elf_model.specs.Link.ThreadStorage.{no_block, thread_block}
use Rattle.elf_model.specs.declared.tls_block.TlsBlock.{TlsBlock}

-- an alignment, or that of a thread-local piece where it is greater
abbrev pub greater_alignment : ℕ → Placed → ℕ
greater_alignment align q = cond (is_thread_piece q.piece) (max align q.piece.align) align

-- the thread pointer of a block: its end, with its size rounded up to a multiple of its alignment
abbrev pub pointer_of : TlsBlock → ℕ
pointer_of b = b.start + round_up b.align b.size

-- and that of placed pieces, modulo 2 ^ 64
abbrev pub thread_pointer : List Placed → ℕ
thread_pointer qs = pointer_of (unwrap_or (thread_block qs) no_block) % 2 ^ 64

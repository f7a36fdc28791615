-- The block of thread-local storage, its program header, and offsets from the thread pointer (System V gABI 5, "Program
-- Header", PT_TLS; ELF Handling For Thread-Local Storage, variant II: the block lies below the thread pointer).
use Rattle.std.specs.Prelude.{ℕ, ℤ, pos, ◌-ℤ◌, ◌+◌, ◌-◌, ◌&&◌, Bool, cond, List, [], ◌∷◌, Option, map, max, nat_lt, option_map, unwrap_or}
use Rattle.std.specs.Option.{option_map_or}
use Rattle.elf_model.specs.Link.LinkerValues.{end_of_pieces, start_of_pieces}
use Rattle.elf_model.specs.Link.Pieces.{Piece, has_bytes, is_thread_piece}
use Rattle.elf_model.specs.Link.Placement.{Placed, Where, round_up}
use Rattle.elf_model.specs.declared.records.ProgramHeader.{ProgramHeader}
use Rattle.elf_model.specs.declared.tls_block.TlsBlock.{TlsBlock}

-- the greatest alignment of the pieces of which a test is true; 1 of none
abbrev pub alignment_of : (Piece → Bool) → List Piece → ℕ
alignment_of test [] = 1
alignment_of test (p ∷ ps) = cond (test p) (max p.align (alignment_of test ps)) (alignment_of test ps)

-- the block of the thread-local pieces at their addresses: from the least address to the greatest end, with the greatest
-- alignment; None without any
abbrev pub block_from : List Placed → ℕ → TlsBlock
block_from qs start = record {
  start = start;
  size = end_of_pieces is_thread_piece qs - start;
  align = alignment_of is_thread_piece (map (λ q. q.piece) qs);
}

abbrev pub thread_block : List Placed → Option TlsBlock
thread_block qs = option_map (block_from qs) (start_of_pieces is_thread_piece qs)

-- the block of all things; without thread-local pieces an empty one at 0
abbrev pub no_block : TlsBlock
no_block = record { start = 0; size = 0; align = 1 }

abbrev pub block_in : Where → TlsBlock
block_in w = unwrap_or (thread_block w.placed) no_block

-- the offset of an address from the thread pointer, which stands where the block's beginning and its size, up to
-- a multiple of its alignment, lead
abbrev pub thread_offset : TlsBlock → ℕ → ℤ
thread_offset b x = pos x -ℤ pos (b.start + round_up b.align b.size)

-- Its initial bytes: those of the thread-local pieces that have bytes, up to the greatest end of the nonempty ones.
abbrev pub is_thread_data : Piece → Bool
is_thread_data p = is_thread_piece p && has_bytes p

abbrev pub is_some_thread_data : Piece → Bool
is_some_thread_data p = is_thread_data p && nat_lt 0 p.size

-- PT_TLS: where the block is, in an image that is mapped from a base on; each thread gets a copy of its initial bytes,
-- and zeros behind them
abbrev pub thread_header : ℕ → List Placed → TlsBlock → ProgramHeader
thread_header base qs b = record {
  p_type = 7;
  p_flags = 4;
  p_offset = b.start - base;
  p_vaddr = b.start;
  p_paddr = b.start;
  p_filesz = end_of_pieces is_some_thread_data qs - b.start;
  p_memsz = b.size;
  p_align = b.align;
}

-- one header where there are thread-local pieces, be they empty, and else none
abbrev pub thread_headers : ℕ → List Placed → List ProgramHeader
thread_headers base qs = option_map_or (λ b. thread_header base qs b ∷ []) (thread_block qs) []

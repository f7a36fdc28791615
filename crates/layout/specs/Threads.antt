-- Thread-local storage, as it is laid out.
use Rattle.std.specs.Prelude.{ℕ, List, Option, cond, map, max, option_map}
use Rattle.elf_model.specs.Link.Pieces.{Piece, is_thread_piece}
use Rattle.elf_model.specs.Link.Placement.{Placed}
use Rattle.elf_model.specs.Link.ThreadStorage.{alignment_of, thread_block, thread_header}
use Rattle.elf_model.specs.declared.records.ProgramHeader.{ProgramHeader}
use Rattle.elf_model.specs.declared.tls_block.TlsBlock.{TlsBlock}

-- the greatest alignment with one more piece
abbrev pub wider : ℕ → Piece → ℕ
wider a p = cond (is_thread_piece p) (max p.align a) a

-- the greatest alignment of the thread-local ones among pieces at their places
abbrev pub placed_alignment : List Placed → ℕ
placed_alignment qs = alignment_of is_thread_piece (map (λ q. q.piece) qs)

-- PT_TLS of pieces at their places, in an image that is mapped from a base on; None without thread-local ones
abbrev pub header_in : ℕ → List Placed → Option ProgramHeader
header_in base qs = option_map (thread_header base qs) (thread_block qs)

-- the block of which a PT_TLS tells
abbrev pub block_of : ProgramHeader → TlsBlock
block_of h = record { start = h.p_vaddr; size = h.p_memsz; align = h.p_align }

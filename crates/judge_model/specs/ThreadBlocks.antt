-- F9. The block of thread-local storage: PT_TLS says where it is, and from this header come the offsets from the thread
-- pointer (System V gABI 5, "Program Header", PT_TLS; ELF Handling For Thread-Local Storage, variant II).
use Rattle.std.specs.Prelude.{◌≡◌, ◌⊎◌, ℕ, ℤ, pos, ◌-ℤ◌, ◌+◌, ◌%◌, ◌^◌, ◌≤◌, ◌&&◌, Bool, true, List, Option, Some, All, Any, map, max, nat_lt}
use Rattle.std.specs.Int.{is_power_of_two}
use Rattle.std.specs.List.{slice_get}
use Rattle.std.specs.Option.{option_map_or}
use Rattle.elf_model.specs.Image.MemoryImage.{Encloses, loads, thread_blocks}
use Rattle.elf_model.specs.Link.LinkerValues.{end_of_pieces, start_of_pieces}
use Rattle.elf_model.specs.Link.Pieces.{Piece, is_thread_piece, is_thread_zero}
use Rattle.elf_model.specs.Link.Placement.{Placed, round_up}
use Rattle.elf_model.specs.Link.ThreadStorage.{alignment_of, is_some_thread_data, is_thread_data}
use Rattle.elf_model.specs.declared.records.ProgramHeader.{ProgramHeader}

-- the thread pointer lies at the block's end, rounded up to a multiple of its alignment; the offset of an address from it
abbrev pub thread_pointer : Option ProgramHeader → ℕ
thread_pointer header = option_map_or (λ h. round_up h.p_align (h.p_vaddr + h.p_memsz)) header 0

abbrev pub thread_offset : List ℕ → ℕ → ℤ
thread_offset image v = pos v -ℤ pos (thread_pointer (slice_get (thread_blocks image) 0))

-- a thread-local section that isn't empty
abbrev pub is_some_thread : Piece → Bool
is_some_thread p = is_thread_piece p && nat_lt 0 p.size

-- the block's end: that of the last section, or rounded up to the block's alignment
abbrev pub EndsAt : ProgramHeader → ℕ → Type 0
EndsAt h end = (h.p_vaddr + h.p_memsz ≡ end) ⊎ (h.p_vaddr + h.p_memsz ≡ round_up h.p_align end)

-- a header is that of the block of the sections of which a test is true
pub record IsBlockOf (test : Piece → Bool) (qs : List Placed) (h : ProgramHeader) : Type 0 where
  pub start : start_of_pieces test qs ≡ Some h.p_vaddr
  pub end : EndsAt h (end_of_pieces test qs)
  pub align : h.p_align ≡ alignment_of test (map (λ q. q.piece) qs)

-- its initial bytes are where a segment has them, at the same place of the file; where it has none its place there says nothing
abbrev pub HoldsInitial : ProgramHeader → ProgramHeader → Type 0
HoldsInitial h g = (h.p_offset + g.p_vaddr ≡ g.p_offset + h.p_vaddr) × Encloses g h.p_vaddr h.p_filesz

abbrev pub HasInitial : List ProgramHeader → ProgramHeader → Type 0
HasInitial hs h = Any (HoldsInitial h) hs ⊎ (h.p_filesz ≡ 0)

-- the block is that of all thread-local sections, or of those that aren't empty
abbrev pub IsSomeBlock : List Placed → ProgramHeader → Type 0
IsSomeBlock qs h = IsBlockOf is_thread_piece qs h ⊎ IsBlockOf is_some_thread qs h

-- The address is a multiple of the alignment: else a C library, which rounds up the block's size, and the standard, which rounds
-- up its end, have two thread pointers.
pub record IsThreadHeader (image : List ℕ) (qs : List Placed) (h : ProgramHeader) : Type 0 where
  pub low : h.p_vaddr + h.p_memsz ≤ 2 ^ 47
  pub power : is_power_of_two h.p_align ≡ true
  pub aligned : h.p_vaddr % h.p_align ≡ 0
  pub block : IsSomeBlock qs h
  pub initial : h.p_vaddr + h.p_filesz ≡ max h.p_vaddr (end_of_pieces is_some_thread_data qs)
  pub segment : HasInitial (loads image) h

-- F9. There is one such header where a thread-local section has anything, and at most one where all are empty; and no section
-- without bytes begins before the last one that has some ends.
pub record IsThreadBlockRight (image : List ℕ) (qs : List Placed) : Type 0 where
  pub some : Any (λ q. is_some_thread q.piece ≡ true) qs → Any (IsThreadHeader image qs) (thread_blocks image)
  pub each : All (IsThreadHeader image qs) (thread_blocks image)
  pub before : All (λ q. is_thread_zero q.piece ≡ true → end_of_pieces is_thread_data qs ≤ q.at) qs

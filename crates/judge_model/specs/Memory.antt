-- What memory holds, as numbers and lists of bytes, and how far it goes.
use Rattle.std.specs.Prelude.{◌≡◌, ℕ, ◌+◌, ◌*◌, ◌^◌, ◌<◌, ◌≤◌, List, [], ◌∷◌, Some, length, max, slice_index}
use Rattle.elf_model.specs.Image.MemoryImage.{first_address}
use Rattle.elf_model.specs.Image.RightLink.{byte_at}
use Rattle.elf_model.specs.declared.records.ProgramHeader.{ProgramHeader}

-- memory holds bytes from an address on
abbrev pub Holds : List ℕ → ℕ → List ℕ → Type 0
Holds image at bytes = (k : ℕ) → k < length bytes → byte_at image (at + k) ≡ Some (slice_index bytes k)

-- the greatest end of segments; the greatest address that has to do with them: two of the largest pages behind it, since
-- linkers go on to the next page where they give an address to what takes up no memory
abbrev pub memory_end : List ProgramHeader → ℕ
memory_end [] = 0
memory_end (h ∷ hs) = max (h.p_vaddr + h.p_memsz) (memory_end hs)

abbrev pub address_limit : List ProgramHeader → ℕ
address_limit hs = memory_end hs + 2 * 2 ^ 21

-- an address is among those of the segments, or not far behind them
pub record IsInReach (hs : List ProgramHeader) (a : ℕ) : Type 0 where
  pub low : first_address hs ≤ a
  pub high : a ≤ address_limit hs

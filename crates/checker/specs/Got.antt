-- What the seventh clause asks of a GOT and its slots, by what names mean.
use Rattle.std.specs.Prelude.{◌≡◌, ℕ, ◌+◌, ◌<◌, ◌≤◌, ◌^◌, Any, List, Some, length, slice_index}
use Rattle.elf_model.specs.Link.Loading.{LoadedObject}
use Rattle.elf_model.specs.Image.MapRecord.{SlotRow}
use Rattle.elf_model.specs.Image.MemoryImage.{Encloses, loads}
use Rattle.elf_model.specs.Image.RightLink.{HasSlot, byte_at}
use Rattle.elf_model.specs.Link.Slots.{Request}
use Rattle.elf_model.specs.declared.link_map.GotLine.{GotLine}

-- there is a slot for each request of a relocation, and for no other
abbrev pub HaveSlots : List SlotRow → List LoadedObject → Type 0
HaveSlots rows objects = (q : Request) → HasSlot rows objects q

-- a GOT lies whole in a segment of the image, and ends at or below 2 ^ 46
pub record LiesInImage (image : List ℕ) (got : GotLine) : Type 0 where
  pub encloses : Any (λ h. Encloses h got.address got.size) (loads image)
  pub low : got.address + got.size ≤ 2 ^ 46

-- memory has bytes from an address on
abbrev pub HoldsBytes : List ℕ → ℕ → List ℕ → Type 0
HoldsBytes image at bytes = (k : ℕ) → k < length bytes → byte_at image (at + k) ≡ Some (slice_index bytes k)

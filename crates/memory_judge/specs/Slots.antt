-- A slot among things that take up memory.
use Rattle.std.specs.Prelude.{◌≡◌, ◌⊎◌, ℕ, ◌+◌, ◌%◌, ◌≤◌, List, All, Any}
use Rattle.byteview.specs.Numbers.{le_bytes}
use Rattle.elf_model.specs.Image.MemoryImage.{loads}
use Rattle.elf_model.specs.Link.Placement.{AreApart}
use Rattle.elf_model.specs.declared.thing.Thing.{Thing}
use Rattle.judge_model.specs.Fields.{IsInFile, slot_thing}
use Rattle.judge_model.specs.Memory.{Holds}
use Rattle.memory_judge.specs.declared.spans.Span.{Span}

-- a thing has none of the eight bytes from an address on
pub record IsClear (at : ℕ) (t : Thing) : Type 0 where
  pub apart : AreApart (slot_thing at) t

-- a span has none of them
abbrev pub IsApartFrom : ℕ → Span → Type 0
IsApartFrom at s = (s.to ≤ at) ⊎ (at + 8 ≤ s.from)

-- a slot of an image: aligned, in the file part of a segment, apart from things, and with its value
pub record IsSlotAmong (image : List ℕ) (things : List Thing) (at value : ℕ) : Type 0 where
  pub aligned : at % 8 ≡ 0
  pub in_file : Any (λ h. IsInFile h at 8) (loads image)
  pub apart : All (IsClear at) things
  pub holds : Holds image at (le_bytes 8 value)

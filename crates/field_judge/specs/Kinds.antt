-- The code's kinds as the definitions see them.
use Rattle.std.specs.Prelude.{◌≡◌, ◌≢◌, ◌⊎◌, ◌*◌, ◌<◌, ◌^◌, ℕ, None}
use Rattle.elf_model.specs.Link.Relocation as relocation
use Rattle.elf_model.specs.Link.Relocation.{IsInRange}
use Rattle.elf_model.specs.Link.Slots.{slot_kind_of}
use Rattle.memory_judge.specs.Numbers.{IsShown}
use Rattle.field_judge.specs.declared.kinds.Formula.{Formula}
use Rattle.field_judge.specs.declared.kinds.Formula.TheVariants as formula
use Rattle.field_judge.specs.declared.kinds.Kind.{Kind}
use Rattle.field_judge.specs.declared.kinds.Range.{Range}
use Rattle.field_judge.specs.declared.kinds.Range.TheVariants as range

abbrev pub formula_view : Formula → relocation.Formula
formula_view formula.Symbol = relocation.S+A
formula_view formula.SymbolFromPlace = relocation.S+A-P
formula_view formula.SymbolFromGot = relocation.S+A-GOT
formula_view formula.Slot = relocation.G+A
formula_view formula.SlotFromPlace = relocation.G+GOT+A-P
formula_view formula.GotFromPlace = relocation.GOT+A-P
formula_view formula.Size = relocation.Z+A
formula_view formula.ThreadOffset = relocation.T+A
formula_view formula.ThreadSlotFromPlace = relocation.GT+GOT+A-P

abbrev pub range_view : Range → relocation.Range
range_view range.Always = relocation.Always
range_view range.Signed = relocation.Signed
range_view range.Unsigned = relocation.Unsigned
range_view range.Either = relocation.Either

abbrev pub kind_view : Kind → relocation.Kind
kind_view k = record { number = k.number; width = k.width; formula = formula_view k.formula; range = range_view k.range }

-- the width of a field in bytes
abbrev pub IsWidth : ℕ → Type 0
IsWidth w = (w ≡ 1) ⊎ (w ≡ 2) ⊎ (w ≡ 4) ⊎ (w ≡ 8)

-- where a kind's formula has a slot its field tells the value whole
pub record TellsSlots (k : relocation.Kind) : Type 0 where
  pub whole :
      (v : ℕ) → slot_kind_of k.formula ≢ None → v < 2 ^ 64 → IsInRange k.range (8 * k.width) v → IsShown k.width v

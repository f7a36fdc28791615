-- The code's kinds as the definitions see them.
use Rattle.std.specs.Prelude.{ℕ, ℤ, ◌+◌, ◌-ℤ◌, pos}
use Rattle.elf_model.specs.Link.Relocation as relocation
use Rattle.elf_model.specs.Link.Relocation.{Terms}
use Rattle.check_relocs.specs.declared.kinds.Formula.{Formula}
use Rattle.check_relocs.specs.declared.kinds.Formula.TheVariants as formula
use Rattle.check_relocs.specs.declared.kinds.Range.{Range}
use Rattle.check_relocs.specs.declared.kinds.Range.TheVariants as range
use Rattle.check_relocs.specs.declared.kinds.Kind.{Kind}
use Rattle.check_relocs.specs.declared.values.Terms as code

abbrev pub formula_view : Formula → relocation.Formula
formula_view formula.Symbol = relocation.S+A
formula_view formula.SymbolFromPlace = relocation.S+A-P
formula_view formula.SymbolFromGot = relocation.S+A-GOT
formula_view formula.Slot = relocation.G+A
formula_view formula.SlotFromPlace = relocation.G+GOT+A-P
formula_view formula.GotFromPlace = relocation.GOT+A-P
formula_view formula.Size = relocation.Z+A
formula_view formula.ThreadOffset = relocation.T+A
formula_view formula.ThreadSlotFromPlace = relocation.GT+GOT+A-P

abbrev pub range_view : Range → relocation.Range
range_view range.Always = relocation.Always
range_view range.Signed = relocation.Signed
range_view range.Unsigned = relocation.Unsigned
range_view range.Either = relocation.Either

abbrev pub kind_view : Kind → relocation.Kind
kind_view k = record { number = k.number; width = k.width; formula = formula_view k.formula; range = range_view k.range }

-- the terms of the code with an addend
abbrev pub terms_view : code.Terms → ℤ → Terms
terms_view x a = record {
  s = x.symbol;
  a = a;
  p = x.place;
  g = x.slot;
  got = x.got;
  z = x.size;
  t = pos x.symbol -ℤ pos x.thread_pointer;
}

-- what a formula adds the addend to, and what it takes away
abbrev pub base_in : Formula → code.Terms → ℕ
base_in formula.Symbol x = x.symbol
base_in formula.SymbolFromPlace x = x.symbol
base_in formula.SymbolFromGot x = x.symbol
base_in formula.Slot x = x.slot
base_in formula.SlotFromPlace x = x.slot + x.got
base_in formula.GotFromPlace x = x.got
base_in formula.Size x = x.size
base_in formula.ThreadOffset x = x.symbol
base_in formula.ThreadSlotFromPlace x = x.slot + x.got

abbrev pub less_in : Formula → code.Terms → ℕ
less_in formula.Symbol x = 0
less_in formula.SymbolFromPlace x = x.place
less_in formula.SymbolFromGot x = x.got
less_in formula.Slot x = 0
less_in formula.SlotFromPlace x = x.place
less_in formula.GotFromPlace x = x.place
less_in formula.Size x = 0
less_in formula.ThreadOffset x = x.thread_pointer
less_in formula.ThreadSlotFromPlace x = x.place

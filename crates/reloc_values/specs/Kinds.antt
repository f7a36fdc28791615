-- The code's kinds as the definitions see them.
use Rattle.elf_model.specs.Link.Relocation as relocation
use Rattle.reloc_values.specs.declared.kinds.Formula as code_formula
use Rattle.reloc_values.specs.declared.kinds.Formula.TheVariants as formula
use Rattle.reloc_values.specs.declared.kinds.Kind as code_kind
use Rattle.reloc_values.specs.declared.kinds.Range as code_range
use Rattle.reloc_values.specs.declared.kinds.Range.TheVariants as range

abbrev pub formula_view : code_formula.Formula → relocation.Formula
formula_view formula.Symbol = relocation.S+A
formula_view formula.SymbolFromPlace = relocation.S+A-P
formula_view formula.SymbolFromGot = relocation.S+A-GOT
formula_view formula.Slot = relocation.G+A
formula_view formula.SlotFromPlace = relocation.G+GOT+A-P
formula_view formula.GotFromPlace = relocation.GOT+A-P
formula_view formula.Size = relocation.Z+A
formula_view formula.ThreadOffset = relocation.T+A
formula_view formula.ThreadSlotFromPlace = relocation.GT+GOT+A-P

abbrev pub range_view : code_range.Range → relocation.Range
range_view range.Always = relocation.Always
range_view range.Signed = relocation.Signed
range_view range.Unsigned = relocation.Unsigned
range_view range.Either = relocation.Either

abbrev pub kind_view : code_kind.Kind → relocation.Kind
kind_view k = record { number = k.number; width = k.width; formula = formula_view k.formula; range = range_view k.range }

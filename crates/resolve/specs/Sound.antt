-- Where a symbol stands, and symbols that are sound as common ones and as any.
use Rattle.std.specs.Prelude.{ℕ, List, Option, None, All, cond}
use Rattle.std.specs.List.{slice_get}
use Rattle.elf_model.specs.Link.Loading.{LoadedObject}
use Rattle.elf_model.specs.Link.Resolution.{IsSoundCommon, IsSoundSymbol, SymbolOf, all_symbols, is_undefined, sections_of_object}
use Rattle.elf_model.specs.declared.records.SectionHeader.{SectionHeader}
use Rattle.elf_model.specs.declared.records.Symbol.{Symbol}

-- the section in which a symbol of an object is defined, by its entry
abbrev pub section_by : List LoadedObject → ℕ → Symbol → Option SectionHeader
section_by objects object s = cond (is_undefined s) None (slice_get (sections_of_object (slice_get objects object)) s.st_shndx)

-- a symbol is sound, as a common one too; and all of the objects are
abbrev pub IsWhollySound : List LoadedObject → SymbolOf → Type 0
IsWhollySound objects s = IsSoundSymbol objects s × IsSoundCommon s

abbrev pub AreWhollySound : List LoadedObject → Type 0
AreWhollySound objects = All (IsWhollySound objects) (all_symbols objects)

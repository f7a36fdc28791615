-- What the soundness of symbols comes down to: their entries, and the sections in which they stand.
use Rattle.std.specs.Prelude.{ℕ, cond, false, List, [], None, Option, slice_get}
use Rattle.elf_model.specs.Link.Loading.{LoadedObject}
use Rattle.elf_model.specs.Link.Resolution.{IsSoundCommon, SymbolOf, is_undefined, sections_of_object}
use Rattle.elf_model.specs.declared.records.SectionHeader.{SectionHeader}
use Rattle.elf_model.specs.declared.records.Symbol.{Symbol}

-- the section in which an entry of object k is defined
abbrev pub section_in : List LoadedObject → ℕ → Symbol → Option SectionHeader
section_in objects k e = cond (is_undefined e) None (slice_get (sections_of_object (slice_get objects k)) e.st_shndx)

-- a symbol of which only the entry is known
abbrev pub bare : Symbol → SymbolOf
bare e = record { object = 0; number = 0; name = []; entry = e; dropped = false }

-- whether a common symbol is sound, its entry tells
abbrev pub IsSoundEntry : Symbol → Type 0
IsSoundEntry e = IsSoundCommon (bare e)

-- The sections of an object by their numbers.
use Rattle.std.specs.Prelude.{ℕ, List, [], length, unwrap_or}
use Rattle.std.specs.List.{range_with_len}
use Rattle.elf_model.specs.Link.Loading.{LoadedObject}
use Rattle.elf_model.specs.Inputs.ObjectFile.{section, section_name, sections}
use Rattle.elf_model.specs.declared.records.SectionHeader.{SectionHeader}
use Rattle.elf_model.specs.declared.references.SectionRef.{SectionRef}

-- the header and the name of a section of an object, and the numbers of all its sections
abbrev pub header_in : LoadedObject → ℕ → SectionHeader
header_in o i = section (sections o.bytes) i

abbrev pub name_in : LoadedObject → ℕ → List ℕ
name_in o i = unwrap_or (section_name o.bytes i) []

abbrev pub numbers : LoadedObject → List ℕ
numbers o = range_with_len 0 (length (sections o.bytes))

-- a section of an object, by their numbers
abbrev pub section_ref : ℕ → ℕ → SectionRef
section_ref object number = record { object = record { 0 = object }; section = number }

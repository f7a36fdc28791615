-- The fields of one object's sections.
use Rattle.std.specs.Prelude.{◌≡◌, ◌↔◌, ℕ, List, All}
use Rattle.std.specs.List.Sorted.{IsNonDecreasingBy}
use Rattle.elf_model.specs.Link.Loading.{LoadedObject}
use Rattle.elf_model.specs.Link.Relocation.{Relocation, relocations}
use Rattle.memory_judge.specs.Rests.{IsIn}
use Rattle.link_fields.specs.Rests.{IsOutside, span_of}
use Rattle.link_fields.specs.declared.object_fields.SectionField.{SectionField}

abbrev pub field_of : Relocation → SectionField
field_of r = record { section = r.section; span = span_of r }

-- byte k of a section isn't in a field
abbrev pub IsFieldOutside : ℕ → ℕ → SectionField → Type 0
IsFieldOutside section k f = f.section ≡ section → ¬ IsIn k f.span

-- fields are those of all sections of the object that has a number
pub record HasFields (objects : List LoadedObject) (object : ℕ) (row : List SectionField) : Type 0 where
  pub rising : IsNonDecreasingBy (λ f. f.section) row
  pub fields : (section k : ℕ) → All (IsFieldOutside section k) row ↔ All (IsOutside object section k) (relocations objects)

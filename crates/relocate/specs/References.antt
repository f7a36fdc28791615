-- What is asked of relocations, and why they are refused.
use Rattle.std.specs.Prelude.{◌≡◌, ◌≢◌, ℕ, cond, List, Option, None, Some, IsSome, All, AllPairs, Any}
use Rattle.std.specs.List.{slice_get}
use Rattle.elf_model.specs.Own.Causes.{IsToDropped, IsToMixed, IsUndefinedName}
use Rattle.elf_model.specs.Link.Loading.{LoadedObject}
use Rattle.elf_model.specs.Inputs.ObjectFile.{sections}
use Rattle.elf_model.specs.Link.Meaning.{Meaning}
use Rattle.elf_model.specs.Link.Relocation.{AreFieldsApart, IsFieldInside, IsLawfulRelocation, IsThreadMismatch, IsUndefined, Relocation, relocation_kind, relocations}
use Rattle.elf_model.specs.Link.Resolution.{binding, is_undefined}
use Rattle.relocate.specs.declared.faults.RelocFault.{RelocFault}
use Rattle.relocate.specs.declared.faults.RelocFault.TheVariants as error
use Rattle.relocate.specs.declared.faults.RelocationFault.{RelocationFault}
use Rattle.relocate.specs.declared.faults.RelocationFault.TheVariants as wrong
use Rattle.elf_model.specs.declared.constants.TheConstants.{STB_WEAK}
use Rattle.elf_model.specs.declared.records.SectionHeader.{SectionHeader}
use Rattle.elf_model.specs.declared.records.Symbol.{Symbol}

-- object number k of the objects
abbrev pub IsObjectAt : List LoadedObject → ℕ → LoadedObject → Type 0
IsObjectAt objects k o = slice_get objects k ≡ Some o

-- the section of an object in which a symbol of it is defined
abbrev pub section_in : List ℕ → Symbol → Option SectionHeader
section_in bytes s = cond (is_undefined s) None (slice_get (sections bytes) s.st_shndx)

-- symbol number j, which has the entry, needs a definition, and has none
abbrev pub LacksDefinition : ℕ → Symbol → Option Meaning → Type 0
LacksDefinition j entry definition = (j ≢ 0) × (binding entry ≢ STB_WEAK) × (definition ≡ None)

-- what is asked of relocations: each is lawful, and their fields are apart
pub record AreLawful (objects : List LoadedObject) (rs : List Relocation) : Type 0 where
  pub each : All (IsLawfulRelocation objects) rs
  pub apart : AllPairs AreFieldsApart rs

-- the refusal of an undefined name, but for memory
abbrev pub IsNamedUndefined : List ℕ → RelocFault → Type 0
IsNamedUndefined name error.Memory = Unit {0}
IsNamedUndefined name (error.Undefined n) = n.items ≡ name
IsNamedUndefined name _ = ⊥

-- what is wrong with one relocation
abbrev pub IsUnlawful : List LoadedObject → Relocation → RelocationFault → Type 0
IsUnlawful objects r wrong.Undefined = IsSome (relocation_kind r) × IsUndefined objects r.symbol
IsUnlawful objects r wrong.RefToDropped = IsToDropped objects r
IsUnlawful objects r wrong.RelocKind = relocation_kind r ≡ None
IsUnlawful objects r wrong.FieldOutside = ¬ IsFieldInside r
IsUnlawful objects r wrong.TlsMismatch = IsThreadMismatch objects r
IsUnlawful objects r wrong.MixedSection = IsToMixed objects r

-- why one relocation isn't lawful
abbrev pub RelocationFails : List LoadedObject → Relocation → RelocFault → Type 0
RelocationFails objects r error.Memory = Unit {0}
RelocationFails objects r (error.Undefined name) = IsUndefinedName name.items objects r
RelocationFails objects r error.RefToDropped = IsToDropped objects r
RelocationFails objects r error.RelocKind = relocation_kind r ≡ None
RelocationFails objects r error.FieldOutside = ¬ IsFieldInside r
RelocationFails objects r error.TlsMismatch = IsThreadMismatch objects r
RelocationFails objects r error.MixedSection = IsToMixed objects r
RelocationFails objects r _ = ⊥

-- why relocations aren't lawful
abbrev pub RelocationsFail : List LoadedObject → List Relocation → RelocFault → Type 0
RelocationsFail objects rs error.Memory = Unit {0}
RelocationsFail objects rs (error.Undefined name) = Any (IsUndefinedName name.items objects) rs
RelocationsFail objects rs error.RefToDropped = Any (IsToDropped objects) rs
RelocationsFail objects rs error.RelocKind = Any (λ r. relocation_kind r ≡ None) rs
RelocationsFail objects rs error.FieldOutside = Any (λ r. ¬ IsFieldInside r) rs
RelocationsFail objects rs error.OverlappingFields = ¬ AllPairs AreFieldsApart rs
RelocationsFail objects rs error.TlsMismatch = Any (IsThreadMismatch objects) rs
RelocationsFail objects rs error.MixedSection = Any (IsToMixed objects) rs
RelocationsFail objects rs _ = ⊥

abbrev pub ReferencesFail : List LoadedObject → RelocFault → Type 0
ReferencesFail objects = RelocationsFail objects (relocations objects)

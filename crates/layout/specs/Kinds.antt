-- Lawful kinds of kept sections, as they are judged.
use Rattle.std.specs.Prelude.{◌≡◌, ℕ, All, List, [], ◌∷◌, true}
use Rattle.elf_model.specs.Link.Loading.{LoadedObject}
use Rattle.elf_model.specs.Inputs.ObjectFile.{section, sections}
use Rattle.elf_model.specs.Link.Pieces.{AreLawfulKinds, IsLawfulKind, is_kept}
use Rattle.elf_model.specs.declared.records.SectionHeader.{SectionHeader}
use Rattle.search.specs.KeptLists.{kept_numbers}
use Rattle.placing.specs.declared.faults.LayoutFault.{LayoutFault}
use Rattle.placing.specs.declared.faults.LayoutFault.TheVariants as error

-- PROGBITS, NOTE, NOBITS, INIT_ARRAY, FINI_ARRAY, PREINIT_ARRAY, X86_64_UNWIND
abbrev pub lawful_types : List ℕ
lawful_types = 1 ∷ 7 ∷ 8 ∷ 14 ∷ 15 ∷ 16 ∷ 0x70000001 ∷ []

-- section i of an object, which has the header
abbrev pub IsLawfulIfKept : LoadedObject → ℕ → SectionHeader → Type 0
IsLawfulIfKept o i h = is_kept o i h ≡ true → IsLawfulKind h

-- the kept sections of an object
pub record HasLawfulKinds (o : LoadedObject) : Type 0 where
  pub each : All (λ i. IsLawfulKind (section (sections o.bytes) i)) (kept_numbers o)

-- why the kinds of kept sections were refused
abbrev pub KindsFail : List LoadedObject → LayoutFault → Type 0
KindsFail objects error.SectionKind = ¬ AreLawfulKinds objects
KindsFail objects _ = ⊥

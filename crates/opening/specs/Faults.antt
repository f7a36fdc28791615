-- The faults of archives as those of items, and when each stands.
use Rattle.std.specs.Prelude.{◌≢◌, List, Any}
use Rattle.elf_model.specs.Own.Causes.{IsBadArchive, IsWithoutIndex}
use Rattle.elf_model.specs.Inputs.Command.{Plan}
use Rattle.elf_model.specs.Inputs.Files.{File}
use Rattle.elf_model.specs.Inputs.Opening.{AreArchives, AreFilesThere, HaveIndexes, Opened, opened}
use Rattle.elf_model.specs.declared.faults.ArFault.{ArFault}
use Rattle.elf_model.specs.declared.faults.ArFault.TheVariants as archive_fault
use Rattle.opening.specs.declared.faults.OpenFault.{OpenFault}
use Rattle.opening.specs.declared.faults.OpenFault.TheVariants as error

abbrev pub of_archive : ArFault → OpenFault
of_archive archive_fault.Memory = error.Memory
of_archive f = error.BadArchive f

-- why items have no files, or want of memory
abbrev pub OpensBadly : List File → Plan → OpenFault → Type 0
OpensBadly files plan error.Memory = Unit {0}
OpensBadly files plan error.FileMissing = ¬ AreFilesThere files plan
OpensBadly files plan _ = ⊥

-- why an archive item can't be searched, or want of memory
abbrev pub IsUnsearchable : OpenFault → Opened → Type 0
IsUnsearchable error.Memory o = Unit {0}
IsUnsearchable (error.BadArchive f) o = (f ≢ archive_fault.Memory) × IsBadArchive f o
IsUnsearchable error.NoIndex o = IsWithoutIndex o
IsUnsearchable _ o = ⊥

abbrev pub AreUnsearchable : List Opened → OpenFault → Type 0
AreUnsearchable os error.Memory = Unit {0}
AreUnsearchable os e = Any (IsUnsearchable e) os

-- the files of a plan are there, and its archives can be searched
pub record IsSearchable (files : List File) (plan : Plan) : Type 0 where
  pub files_are : AreFilesThere files plan
  pub archives : AreArchives (opened files plan)
  pub indexes : HaveIndexes (opened files plan)

-- why the items of a plan could not be read, or want of memory
abbrev pub ReadsBadly : List File → Plan → OpenFault → Type 0
ReadsBadly files plan error.Memory = Unit {0}
ReadsBadly files plan error.FileMissing = ¬ AreFilesThere files plan
ReadsBadly files plan (error.BadArchive f) = AreFilesThere files plan × (f ≢ archive_fault.Memory) × Any (IsBadArchive f) (opened files plan)
ReadsBadly files plan error.NoIndex = AreFilesThere files plan × Any IsWithoutIndex (opened files plan)

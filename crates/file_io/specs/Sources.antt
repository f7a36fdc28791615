-- What a source of files tells of them, and what is gathered from one.
use Rattle.std.specs.Prelude.{◌≡◌, ℕ, ◌+◌, List, ◌∷◌, ◌++◌, Option, Some, None, option_map, option_to_list, string_bytes}
use Rattle.std.specs.List.{flat_map}
use Rattle.elf_model.specs.Inputs.Files.{File}
use Rattle.file_io.specs.declared.file_source.FetchFault.{FetchFault}
use Rattle.file_io.specs.declared.file_source.FetchFault.TheVariants as fetch_fault
use Rattle.file_io.specs.declared.file_source.GatherFault.{GatherFault}
use Rattle.file_io.specs.declared.file_source.GatherFault.TheVariants as gather_fault

-- the bytes of the file at each path, None where there is no file
abbrev pub Disk : Type 0
Disk = List ℕ → Option (List ℕ)

-- what a source that tells its files answers for a path; one that doesn't may answer anything
abbrev pub Answers : Option Disk → List ℕ → Option (List ℕ) → Type 0
Answers None path answer = Unit {0}
Answers (Some disk) path answer = answer ≡ disk path

-- how many failures are counted after a fault of one fetch
abbrev pub FetchFails : FetchFault → ℕ → ℕ → Type 0
FetchFails fetch_fault.Memory old new = new ≡ old
FetchFails fetch_fault.Device old new = new ≡ old + 1

-- the files at some paths, in their order; those that aren't there are left out
abbrev pub file_at : Disk → List ℕ → List File
file_at disk path = option_to_list (option_map (λ bytes. record { name = path; bytes = bytes }) (disk path))

abbrev pub gathered : Disk → List (List ℕ) → List File
gathered disk paths = flat_map (file_at disk) paths

-- what is gathered from a source, where that tells its files
abbrev pub AreGathered : Option Disk → List (List ℕ) → List File → Type 0
AreGathered None paths files = Unit {0}
AreGathered (Some disk) paths files = files ≡ gathered disk paths

-- a path is among some
pub record IsPath (paths : List (List ℕ)) (path : List ℕ) : Type 0 where
  pub front : List (List ℕ)
  pub rest : List (List ℕ)
  pub parts : paths ≡ front ++ path ∷ rest

-- how many failures are counted where files aren't gathered; a file that wasn't read is one of those
abbrev pub GatherFails : List (List ℕ) → GatherFault → ℕ → ℕ → Type 0
GatherFails paths gather_fault.Memory old new = new ≡ old
GatherFails paths (gather_fault.CannotRead path) old new = (new ≡ old + 1) × IsPath paths (string_bytes path)

-- the same where one file isn't added
abbrev pub AddFails : List ℕ → GatherFault → ℕ → ℕ → Type 0
AddFails path gather_fault.Memory old new = new ≡ old
AddFails path (gather_fault.CannotRead name) old new = (new ≡ old + 1) × (string_bytes name ≡ path)

-- the file at a path is added to others, where the source tells its files
abbrev pub AddsFile : Option Disk → List ℕ → List File → List File → Type 0
AddsFile None path old new = Unit {0}
AddsFile (Some disk) path old new = new ≡ old ++ file_at disk path

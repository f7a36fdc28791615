-- Files that a link has: some were read in part, the others whole.
use Rattle.std.specs.Prelude.{◌≡◌, ◌⊎◌, ℕ, Bool, true, false, List, ◌++◌, None, All, find, map}
use Rattle.std.specs.Str.{bytes_eq}
use Rattle.ar_index.specs.Parts.{PartialFile, file_of_parts}
use Rattle.elf_model.specs.Inputs.Command.{Item, Plan, paths_of}
use Rattle.elf_model.specs.Inputs.Files.{File, files_of}
use Rattle.elf_model.specs.declared.input_file.InputFile.{InputFile}

pub record HeldFiles : Type 0 where
  pub parts : List PartialFile
  pub wholes : List File

-- those that were read in part count first
abbrev pub all_files : HeldFiles → List File
all_files h = map file_of_parts h.parts ++ h.wholes

abbrev pub is_part_named : List ℕ → PartialFile → Bool
is_part_named name p = bytes_eq p.name name

-- no file that was read in part has one of some paths
abbrev pub IsApart : List PartialFile → List (List ℕ) → Type 0
IsApart parts paths = All (λ path. find (is_part_named path) parts ≡ None) paths

-- an item is an archive that is searched, or its file was read whole
abbrev pub IsSearchedOrWhole : List PartialFile → List (List ℕ) → Item → Type 0
IsSearchedOrWhole parts directories item =
    ((item.archive ≡ true) × (item.whole ≡ false)) ⊎ IsApart parts (paths_of directories item.source)

-- only archives that a plan searches were read in part
abbrev pub AreSearched : List PartialFile → Plan → Type 0
AreSearched parts plan = All (IsSearchedOrWhole parts plan.directories) plan.items

-- files that were read in part, and input files
abbrev pub held_files : List PartialFile → List InputFile → List File
held_files parts files = map file_of_parts parts ++ files_of files

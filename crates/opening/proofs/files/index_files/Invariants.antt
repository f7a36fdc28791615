use Rattle.std.proofs.Common.{◌≡◌, List, ℕ, drop}
use Rattle.std.specs.Option.{option_or}
use Rattle.elf_model.specs.Inputs.Files.{files_of}
use Rattle.elf_model.specs.Inputs.Opening.{file_named}
use Rattle.elf_model.specs.Inputs.FileIndex.{found}
use Rattle.opening.proofs.files.index_files.Given as goal

abbrev pub invariant-loop-file : goal.invariant-loop-file
invariant-loop-file l =
    (name : List ℕ) → option_or (found l.index name) (file_named (files_of (drop l.file-index l.files)) name) ≡ file_named (files_of l.files) name

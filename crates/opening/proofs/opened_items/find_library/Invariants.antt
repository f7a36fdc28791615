use Rattle.std.proofs.Common.{◌≡◌, drop}
use Rattle.command.specs.Views.{texts_of}
use Rattle.elf_model.specs.Inputs.Command.{library_paths}
use Rattle.opening.specs.Held.{all_files}
use Rattle.opening.specs.Opened.{first_found}
use Rattle.opening.proofs.opened_items.find_library.Given as goal

abbrev pub invariant-loop-directory : goal.invariant-loop-directory
invariant-loop-directory l =
    first_found (all_files l.files) (library_paths (texts_of (drop l.directory-index l.directories)) l.name)
    ≡ first_found (all_files l.files) (library_paths (texts_of l.directories) l.name)

use Rattle.std.proofs.Common.{◌≡◌, drop}
use Rattle.elf_model.specs.Inputs.Command.{library_paths}
use Rattle.command.specs.Views.{texts_of}
use Rattle.command.specs.Candidates.{with_all}
use Rattle.command.proofs.paths.add_library.Given as goal

abbrev pub invariant-loop-directory : goal.invariant-loop-directory
invariant-loop-directory l =
    with_all l.found (library_paths (texts_of (drop l.directory-index l.directories)) l.name) ≡ with_all l.fn.found (library_paths (texts_of l.directories) l.name)

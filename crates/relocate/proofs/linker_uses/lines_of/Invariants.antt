use Rattle.std.proofs.Common.{◌≡◌, ◌++◌}
use Rattle.elf_model.specs.Link.UsedNames.{linker_meanings}
use Rattle.relocate.specs.Uses.{line_views}
use Rattle.relocate.proofs.linker_uses.lines_of.Given as goal

abbrev pub invariant-loop-name : goal.invariant-loop-name
invariant-loop-name l =
    line_views l.lines.items ++ linker_meanings l.resolved l.name-iterator ≡ linker_meanings l.resolved l.names.keys

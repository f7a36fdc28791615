use Rattle.std.proofs.Common.{◌≡◌, ◌++◌}
use Rattle.elf_model.specs.Link.UsedNames.{linker_meanings}
use Rattle.check_link.specs.Views.{meaning_views}
use Rattle.check_relocs.proofs.linker_uses.lines_of.Given as goal

abbrev pub invariant-loop-name : goal.invariant-loop-name
invariant-loop-name l =
    meaning_views l.lines.items ++ linker_meanings l.bindings.objects l.name-iterator ≡ linker_meanings l.bindings.objects l.names.keys

use Rattle.std.proofs.Common.{◌≡◌, ◌==◌, map}
use Rattle.std.specs.Prelude.{filter}
use Rattle.std.specs.List.{range_with_len}
use Rattle.elf_model.specs.Inputs.ObjectFile.{group_at, section}
use Rattle.elf_read.specs.Reading.{names_of}
use Rattle.elf_read.proofs.groups.read_groups.Given as goal

abbrev pub invariant-loop-i : goal.invariant-loop-i
invariant-loop-i l =
    l.groups.items
    ≡ map (group_at l.file l.sections (names_of l.symbol_strings l.symbols)) (filter (λ k. (section l.sections k).sh_type == 17) (range_with_len 0 l.i))

use Rattle.std.proofs.Common.{◌≡◌, ℕ, List, drop, ◌||◌}
use Rattle.std.specs.List.{list_any}
use Rattle.elf_model.specs.Link.Relocation.{relocations_from}
use Rattle.elf_model.specs.Link.UsedNames.{is_among, uses_line}
use Rattle.search.specs.KeptLists.{relocations_of_relas}
use Rattle.relocate.specs.Uses.{using}
use Rattle.relocate.proofs.linker_uses.add_relocations.Given as goal

abbrev pub invariant-loop-rela : goal.invariant-loop-rela
invariant-loop-rela l =
    (n : List ℕ) →
    (is_among l.names n || list_any (uses_line l.user.resolved.now n) (relocations_of_relas l.user.number (using l.user) (drop l.rela-index l.relas)))
    ≡ (is_among l.fn.names n || list_any (uses_line l.user.resolved.now n) (relocations_from l.user.number (using l.user)))

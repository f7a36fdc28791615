use Rattle.std.proofs.Common.{◌≡◌, ℕ, List, ◌||◌, map}
use Rattle.std.specs.List.{list_any}
use Rattle.elf_model.specs.Link.Relocation.{relocation_of}
use Rattle.elf_model.specs.Link.UsedNames.{is_among, uses_line}
use Rattle.search.specs.KeptLists.{relocations_by}
use Rattle.relocate.specs.Uses.{using}
use Rattle.relocate.proofs.linker_uses.add_section.Given as goal

abbrev pub invariant-loop-entry : goal.invariant-loop-entry
invariant-loop-entry l =
    (n : List ℕ) →
    (is_among l.names n || list_any (uses_line l.user.resolved.now n) (map (relocation_of l.user.number (using l.user) l.rela.target) l.entry-iterator))
    ≡ (is_among l.fn.names n || list_any (uses_line l.user.resolved.now n) (relocations_by l.user.number (using l.user) l.rela))

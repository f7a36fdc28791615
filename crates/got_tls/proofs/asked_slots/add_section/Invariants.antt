use Rattle.std.proofs.Common.{◌≡◌, map}
use Rattle.elf_model.specs.Link.Relocation.{relocation_of}
use Rattle.search.specs.KeptLists.{relocations_by}
use Rattle.got_tls.specs.Askers.{all_asked, asking}
use Rattle.got_tls.specs.Asking.{with_relocations}
use Rattle.got_tls.specs.AskedViews.{wants}
use Rattle.got_tls.proofs.asked_slots.add_section.Given as goal

abbrev pub invariant-loop-entry : goal.invariant-loop-entry
invariant-loop-entry l =
    with_relocations (all_asked l.asker) (wants l.asked) (map (relocation_of l.asker.number (asking l.asker) l.rela.target) l.entry-iterator)
    ≡ with_relocations (all_asked l.asker) (wants l.fn.asked) (relocations_by l.asker.number (asking l.asker) l.rela)

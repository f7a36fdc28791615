use Rattle.std.proofs.Common.{◌≡◌, drop}
use Rattle.elf_model.specs.Link.Relocation.{relocations_from}
use Rattle.search.specs.KeptLists.{relocations_of_relas}
use Rattle.got_tls.specs.Askers.{all_asked, asking}
use Rattle.got_tls.specs.Asking.{with_relocations}
use Rattle.got_tls.specs.AskedViews.{wants}
use Rattle.got_tls.proofs.asked_slots.add_relocations.Given as goal

abbrev pub invariant-loop-rela : goal.invariant-loop-rela
invariant-loop-rela l =
    with_relocations (all_asked l.asker) (wants l.asked) (relocations_of_relas l.asker.number (asking l.asker) (drop l.rela-index l.relas))
    ≡ with_relocations (all_asked l.asker) (wants l.fn.asked) (relocations_from l.asker.number (asking l.asker))

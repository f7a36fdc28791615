use Rattle.std.proofs.Common.{◌≡◌}
use Rattle.std.specs.List.{list_any}
use Rattle.check_load.specs.Views.{loaded_view, loaded_views}
use Rattle.elf_model.proofs.FlatRelocations.{left_of_objects}
use Rattle.elf_model.specs.Link.Relocation.{relocations}
use Rattle.link_judge.specs.Rewritten.{is_shared_thread_in}
use Rattle.link_judge.proofs.rewrites.have_shared.Given as goal

abbrev pub invariant-loop-k : goal.invariant-loop-k
invariant-loop-k l =
    list_any (is_shared_thread_in l.drops) (left_of_objects loaded_view l.objects l.k)
    ≡ list_any (is_shared_thread_in l.drops) (relocations (loaded_views l.objects))

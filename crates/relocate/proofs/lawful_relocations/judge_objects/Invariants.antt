use Rattle.std.proofs.Common.{◌≡◌}
use Rattle.elf_model.proofs.FlatRelocations.{left_of_objects}
use Rattle.elf_model.specs.Link.Relocation.{relocations}
use Rattle.got_tls.specs.Asking.{nothing, with_relocations}
use Rattle.got_tls.specs.AskedViews.{wants}
use Rattle.relocate.proofs.Judged.{Remains}
use Rattle.search.specs.Views.{loaded_view, loaded_views}
use Rattle.relocate.proofs.lawful_relocations.judge_objects.Given as goal

abbrev pub invariant-loop-k : goal.invariant-loop-k
invariant-loop-k l = record {
  asked :
      with_relocations (loaded_views l.objects) (wants l.asked) (left_of_objects loaded_view l.objects l.k)
      ≡ with_relocations (loaded_views l.objects) (nothing (loaded_views l.objects)) (relocations (loaded_views l.objects));
  remains : Remains (loaded_views l.objects) (relocations (loaded_views l.objects)) (left_of_objects loaded_view l.objects l.k);
}

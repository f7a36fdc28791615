use Rattle.std.proofs.Common.{drop}
use Rattle.std.specs.Prelude.{All}
use Rattle.elf_model.specs.Image.MapText.{AreBytes}
use Rattle.search.specs.Views.{loaded_views}
use Rattle.debug_main.proofs.read_back.show_contents.Given as goal

abbrev pub invariant-loop-k : goal.invariant-loop-k
invariant-loop-k l = All (λ o. AreBytes o.bytes) (loaded_views (drop l.k l.objects)) → All (λ o. AreBytes o.bytes) (loaded_views l.objects)

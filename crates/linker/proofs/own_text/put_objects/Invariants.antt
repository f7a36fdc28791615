use Rattle.std.proofs.Common.{drop}
use Rattle.std.specs.List.{flat_map}
use Rattle.elf_model.specs.Image.MapText.{object_text}
use Rattle.elf_model.specs.Image.RightLink.{object_rows}
use Rattle.search.specs.Views.{loaded_views}
use Rattle.linker.proofs.Behind.{Leads}
use Rattle.linker.proofs.own_text.put_objects.Given as goal

abbrev pub invariant-loop-k : goal.invariant-loop-k
invariant-loop-k g l =
    Leads (g.T.LineSink.told l.fn.text) (flat_map object_text (object_rows 0 (loaded_views l.objects)))
    (g.T.LineSink.told l.text) (flat_map object_text (object_rows l.k (loaded_views (drop l.k l.objects))))

use Rattle.std.proofs.Common.{drop}
use Rattle.std.specs.List.{flat_map}
use Rattle.elf_model.specs.Image.MapText.{common_text}
use Rattle.resolve.specs.Views.{meaning_views}
use Rattle.image_write.specs.CommonRows.{own_commons}
use Rattle.linker.proofs.Behind.{Leads}
use Rattle.linker.proofs.own_text.put_commons.Given as goal

abbrev pub invariant-loop-meaning : goal.invariant-loop-meaning
invariant-loop-meaning g l =
    Leads (g.T.LineSink.told l.fn.text) (flat_map common_text (own_commons l.placement.base l.placement.objects (meaning_views l.listed)))
    (g.T.LineSink.told l.text) (flat_map common_text (own_commons l.placement.base l.placement.objects (meaning_views (drop l.meaning-index l.listed))))

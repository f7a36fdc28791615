use Rattle.std.proofs.Common.{drop, map}
use Rattle.std.specs.List.{flat_map}
use Rattle.elf_model.specs.Image.MapText.{symbol_text}
use Rattle.elf_model.specs.Image.RightLink.{symbol_row_of}
use Rattle.elf_model.specs.Own.OwnLayout.{own_where}
use Rattle.resolve.specs.Views.{meaning_views}
use Rattle.linker.proofs.Behind.{Leads}
use Rattle.linker.proofs.own_text.put_symbols.Given as goal

abbrev pub invariant-loop-meaning : goal.invariant-loop-meaning
invariant-loop-meaning g l =
    Leads (g.T.LineSink.told l.fn.text) (flat_map symbol_text (map (symbol_row_of (own_where l.placement.base l.placement.objects)) (meaning_views l.listed)))
    (g.T.LineSink.told l.text) (flat_map symbol_text (map (symbol_row_of (own_where l.placement.base l.placement.objects)) (meaning_views (drop l.meaning-index l.listed))))

use Rattle.std.proofs.Common.{drop}
use Rattle.std.specs.List.{flat_map}
use Rattle.elf_model.specs.Image.MapText.{drop_text}
use Rattle.elf_model.specs.Image.RightLink.{drops_from}
use Rattle.search.specs.Views.{loaded_view}
use Rattle.linker.proofs.Behind.{Leads}
use Rattle.linker.proofs.own_text.put_object_drops.Given as goal

abbrev pub invariant-loop-i : goal.invariant-loop-i
invariant-loop-i g l =
    Leads (g.T.LineSink.told l.fn.text) (flat_map drop_text (drops_from l.number (loaded_view l.loaded) 0 l.headers))
    (g.T.LineSink.told l.text) (flat_map drop_text (drops_from l.number (loaded_view l.loaded) l.i (drop l.i l.headers)))

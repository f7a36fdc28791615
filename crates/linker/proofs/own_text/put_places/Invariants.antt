use Rattle.std.proofs.Common.{drop, map}
use Rattle.std.specs.List.{flat_map}
use Rattle.elf_model.specs.Image.MapText.{place_text}
use Rattle.elf_model.specs.Link.Pieces.{pieces_of}
use Rattle.search.specs.Views.{loaded_views}
use Rattle.image_write.specs.Maps.{own_row}
use Rattle.linker.proofs.Behind.{Leads}
use Rattle.linker.proofs.own_text.put_places.Given as goal

abbrev pub invariant-loop-k : goal.invariant-loop-k
invariant-loop-k g l =
    Leads (g.T.LineSink.told l.fn.text) (flat_map place_text (map (own_row l.placement) (pieces_of 0 (loaded_views l.objects))))
    (g.T.LineSink.told l.text) (flat_map place_text (map (own_row l.placement) (pieces_of l.k (loaded_views (drop l.k l.objects)))))

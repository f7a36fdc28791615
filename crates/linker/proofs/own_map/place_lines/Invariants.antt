use Rattle.std.proofs.Common.{◌≡◌, ◌++◌, drop, map}
use Rattle.elf_model.specs.Image.MapRecord.{place_row}
use Rattle.elf_model.specs.Link.Pieces.{pieces_of}
use Rattle.search.specs.Views.{loaded_views}
use Rattle.image_write.specs.Maps.{own_row}
use Rattle.linker.proofs.own_map.place_lines.Given as goal

abbrev pub invariant-loop-k : goal.invariant-loop-k
invariant-loop-k l =
    map place_row l.lines.items ++ map (own_row l.placement) (pieces_of l.k (loaded_views (drop l.k l.objects)))
    ≡ map (own_row l.placement) (pieces_of 0 (loaded_views l.objects))

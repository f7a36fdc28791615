use Rattle.std.proofs.Common.{◌≡◌, ◌++◌, drop, map}
use Rattle.elf_model.specs.Image.MapRecord.{place_row}
use Rattle.elf_model.specs.Link.Pieces.{pieces_from}
use Rattle.search.specs.Views.{loaded_view}
use Rattle.image_write.specs.Maps.{own_row}
use Rattle.linker.proofs.own_map.add_place_lines.Given as goal

abbrev pub invariant-loop-i : goal.invariant-loop-i
invariant-loop-i l =
    map place_row l.lines.items ++ map (own_row l.placement) (pieces_from l.number (loaded_view l.loaded) l.i (drop l.i l.headers))
    ≡ map place_row l.fn.lines.items ++ map (own_row l.placement) (pieces_from l.number (loaded_view l.loaded) 0 l.headers)

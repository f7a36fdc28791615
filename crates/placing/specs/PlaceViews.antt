-- Places as the definitions see them.
use Rattle.std.specs.Prelude.{List, map}
use Rattle.elf_model.specs.Link.Placement.{Placed}
use Rattle.placing.specs.Views.{piece_view}
use Rattle.placing.specs.declared.runs.Place.{Place}

abbrev pub place_view : Place → Placed
place_view q = record { at = q.at; piece = piece_view q.piece }

abbrev pub place_views : List Place → List Placed
place_views qs = map place_view qs

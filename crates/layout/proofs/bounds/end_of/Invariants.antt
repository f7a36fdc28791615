use Rattle.std.specs.Prelude.{◌≡◌, drop, map, max}
use Rattle.elf_model.specs.Link.LinkerValues.{end_of_pieces}
use Rattle.layout.specs.PieceParts.{part_test}
use Rattle.placing.specs.PlaceViews.{place_view, place_views}
use Rattle.layout.proofs.bounds.end_of.Given as goal

abbrev pub invariant-loop-place : goal.invariant-loop-place
invariant-loop-place l = max l.end (end_of_pieces (part_test l.part) (map place_view (drop l.place-index l.places))) ≡ end_of_pieces (part_test l.part) (place_views l.places)

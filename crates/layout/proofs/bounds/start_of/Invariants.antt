use Rattle.std.specs.Prelude.{◌≡◌, drop, map}
use Rattle.elf_model.specs.Link.LinkerValues.{start_of_pieces}
use Rattle.elf_model.proofs.PieceBounds.{either_least}
use Rattle.layout.specs.PieceParts.{part_test}
use Rattle.placing.specs.PlaceViews.{place_view, place_views}
use Rattle.layout.proofs.bounds.start_of.Given as goal

abbrev pub invariant-loop-place : goal.invariant-loop-place
invariant-loop-place l = either_least l.start (start_of_pieces (part_test l.part) (map place_view (drop l.place-index l.places))) ≡ start_of_pieces (part_test l.part) (place_views l.places)

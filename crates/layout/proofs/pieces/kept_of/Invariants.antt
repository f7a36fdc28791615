use Rattle.std.proofs.Common.{◌≡◌, ◌++◌, drop}
use Rattle.elf_model.specs.Link.Pieces as pieces
use Rattle.search.specs.Views.{loaded_views}
use Rattle.placing.specs.Views.{piece_views}
use Rattle.layout.proofs.pieces.kept_of.Given as goal

abbrev pub invariant-loop-k : goal.invariant-loop-k
invariant-loop-k l = piece_views l.found.items ++ pieces.pieces_of l.k (loaded_views (drop l.k l.objects)) ≡ pieces.kept_sections (loaded_views l.objects)

use Rattle.std.specs.Prelude.{◌≡◌, ℕ, List, drop, map, max}
use Rattle.elf_model.specs.Link.LinkerValues.{end_of_pieces, start_of_pieces}
use Rattle.elf_model.specs.Link.Pieces.{is_of_output}
use Rattle.elf_model.proofs.PieceBounds.{either_least}
use Rattle.check_link.specs.ByName.{IsKept, known}
use Rattle.check_link.specs.Outputs.{end_of, start_of}
use Rattle.check_link.specs.Views.{placed_view, placed_views}
use Rattle.check_link.proofs.bounds.spans_of.Given as goal

abbrev pub invariant-loop-q : goal.invariant-loop-q
invariant-loop-q l = record {
  kept : IsKept l.spans;
  starts :
      (name : List ℕ) → either_least (start_of (known l.spans name)) (start_of_pieces (is_of_output name) (map placed_view (drop l.q-index l.placed)))
      ≡ start_of_pieces (is_of_output name) (placed_views l.placed);
  ends :
      (name : List ℕ) → max (end_of (known l.spans name)) (end_of_pieces (is_of_output name) (map placed_view (drop l.q-index l.placed)))
      ≡ end_of_pieces (is_of_output name) (placed_views l.placed);
}

use Rattle.std.specs.Prelude.{◌≡◌, ℕ, List, drop, filter, map, max}
use Rattle.elf_model.specs.Link.LinkerValues.{end_of_pieces, is_code_piece, is_file_data, is_loaded_piece, is_zero_data, start_of_pieces}
use Rattle.elf_model.specs.Link.Pieces.{is_of_output}
use Rattle.elf_model.proofs.PieceBounds.{either_least}
use Rattle.layout.specs.PieceParts.{end_with, is_other, start_with}
use Rattle.placing.specs.PlaceViews.{place_view, place_views}
use Rattle.layout.proofs.OtherPlaces.{passing}
use Rattle.layout.proofs.bounds.all_bounds.Given as goal

abbrev pub invariant-loop-place : goal.invariant-loop-place
invariant-loop-place l = record {
  code : max l.parts.code_end (end_of_pieces is_code_piece (map place_view (drop l.place-index l.places))) ≡ end_of_pieces is_code_piece (place_views l.places);
  data_ : max l.parts.data_end (end_of_pieces is_file_data (map place_view (drop l.place-index l.places))) ≡ end_of_pieces is_file_data (place_views l.places);
  image : max l.parts.image_end (end_of_pieces is_loaded_piece (map place_view (drop l.place-index l.places))) ≡ end_of_pieces is_loaded_piece (place_views l.places);
  zeros : either_least l.parts.zero_start (start_of_pieces is_zero_data (map place_view (drop l.place-index l.places))) ≡ start_of_pieces is_zero_data (place_views l.places);
  starts :
      (n : List ℕ) →
      either_least (start_with l.last l.outputs n) (start_of_pieces (is_of_output n) (passing (is_other l.got) l.places l.place-index))
      ≡ start_of_pieces (is_of_output n) (filter (is_other l.got) (place_views l.places));
  ends :
      (n : List ℕ) →
      max (end_with l.last l.outputs n) (end_of_pieces (is_of_output n) (passing (is_other l.got) l.places l.place-index))
      ≡ end_of_pieces (is_of_output n) (filter (is_other l.got) (place_views l.places));
}

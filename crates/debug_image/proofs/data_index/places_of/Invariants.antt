use Rattle.std.proofs.Common.{take}
use Rattle.placing.specs.PlaceViews.{place_views}
use Rattle.debug_image.specs.DataIndexes.{AreOffsets, HasNoRelas}
use Rattle.debug_image.proofs.data_index.places_of.Given as goal

abbrev pub invariant-loop-place : goal.invariant-loop-place
invariant-loop-place l = record {
  offsets : AreOffsets (place_views (take l.place-index l.row)) l.index;
  relas : HasNoRelas l.index;
}

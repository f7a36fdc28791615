use Rattle.placing.specs.PlaceViews.{place_views}
use Rattle.search.specs.Views.{loaded_view}
use Rattle.debug_image.specs.DataIndexes.{AreOffsets, AreRelas}
use Rattle.debug_image.proofs.data_index.index_of.Given as goal

abbrev pub invariant-loop-i : goal.invariant-loop-i
invariant-loop-i l = record {
  offsets : AreOffsets (place_views l.row) l.index;
  relas : AreRelas (loaded_view l.loaded) l.i l.index;
}

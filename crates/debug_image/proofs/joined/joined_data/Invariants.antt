use Rattle.std.proofs.Common.{◌≡◌, ◌≤◌, ◌++◌, [], drop, length, take}
use Rattle.std.specs.Prelude.{All}
use Rattle.search.specs.Views.{loaded_views}
use Rattle.debug_image.specs.DataIndexes.{AreAll}
use Rattle.debug_image.specs.DebugSections.{AreLow, IsLow, joined_from, most_names, rows_from}
use Rattle.debug_image.specs.DebugViews.{joined_views, row_views}
use Rattle.debug_image.proofs.joined.joined_data.Given as goal

abbrev pub invariant-loop-k : goal.invariant-loop-k
invariant-loop-k l = record {
  rows :
      row_views l.rows.items ++ rows_from l.flags (joined_views l.joined.items) l.k (drop l.k (loaded_views l.objects))
      ≡ rows_from l.flags [] 0 (loaded_views l.objects);
  ends : AreLow (row_views l.rows.items);
  joined : joined_from l.flags (joined_views l.joined.items) l.k (drop l.k (loaded_views l.objects)) ≡ joined_from l.flags [] 0 (loaded_views l.objects);
  low : All IsLow (joined_views l.joined.items);
  few : length l.joined.items ≤ most_names;
  index : AreAll (loaded_views (take l.k l.objects)) (row_views l.rows.items) l.index.items;
}

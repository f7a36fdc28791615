use Rattle.std.proofs.Common.{◌≡◌}
use Rattle.std.specs.List.{filter_map, flat_map, list_any, range_with_len}
use Rattle.debug_image.specs.DebugLayouts.{data_in, object_here, placed_here}
use Rattle.debug_image.specs.DebugValues.{entries_at, entry_field, is_left}
use Rattle.debug_image.proofs.FieldSteps.{AreMarked, AreUnder}
use Rattle.debug_image.proofs.debug_bytes.write_each.Given as goal

abbrev pub invariant-loop-i : goal.invariant-loop-i
invariant-loop-i l = record {
  bytes :
      AreUnder l.bytes l.fn.bytes
      (filter_map (entry_field (data_in l.layout) (placed_here l.here) (object_here l.here))
      (flat_map (entries_at (object_here l.here) l.here.place.now.piece.section) (range_with_len 0 l.i)));
  marks :
      AreMarked l.marks l.fn.marks
      (filter_map (entry_field (data_in l.layout) (placed_here l.here) (object_here l.here))
      (flat_map (entries_at (object_here l.here) l.here.place.now.piece.section) (range_with_len 0 l.i)));
  left :
      l.left
      ≡ list_any (is_left (data_in l.layout) (placed_here l.here) (object_here l.here))
      (flat_map (entries_at (object_here l.here) l.here.place.now.piece.section) (range_with_len 0 l.i));
}

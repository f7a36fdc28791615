use Rattle.std.proofs.Common.{◌≡◌, take}
use Rattle.std.specs.List.{filter_map, list_any}
use Rattle.debug_image.specs.DebugLayouts.{data_in, object_here, placed_here}
use Rattle.debug_image.specs.DebugValues.{entry_field, is_left}
use Rattle.debug_image.proofs.FieldSteps.{AreMarked, AreUnder}
use Rattle.debug_image.proofs.debug_bytes.write_run.Given as goal

abbrev pub invariant-loop-i : goal.invariant-loop-i
invariant-loop-i l = record {
  bytes :
      AreUnder l.bytes l.fn.bytes
      (filter_map (entry_field (data_in l.layout) (placed_here l.here) (object_here l.here)) (take l.i l.entries));
  marks :
      AreMarked l.marks l.fn.marks
      (filter_map (entry_field (data_in l.layout) (placed_here l.here) (object_here l.here)) (take l.i l.entries));
  left : l.left ≡ list_any (is_left (data_in l.layout) (placed_here l.here) (object_here l.here)) (take l.i l.entries);
}

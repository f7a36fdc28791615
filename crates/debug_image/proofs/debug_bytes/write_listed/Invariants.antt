use Rattle.std.proofs.Common.{◌≡◌, take}
use Rattle.std.specs.List.{filter_map, flat_map, list_any}
use Rattle.debug_image.specs.DataIndexes.{relas_in}
use Rattle.debug_image.specs.DebugLayouts.{data_in, object_here, placed_here}
use Rattle.debug_image.specs.DebugValues.{entry_field, is_left}
use Rattle.debug_image.proofs.FieldSteps.{AreMarked, AreUnder}
use Rattle.debug_image.proofs.debug_bytes.write_listed.Given as goal

abbrev pub invariant-loop-number : goal.invariant-loop-number
invariant-loop-number l = record {
  bytes :
      AreUnder l.bytes l.fn.bytes
      (filter_map (entry_field (data_in l.layout) (placed_here l.here) (object_here l.here))
      (flat_map (relas_in (object_here l.here)) (take l.number-index l.section.relas.items)));
  marks :
      AreMarked l.marks l.fn.marks
      (filter_map (entry_field (data_in l.layout) (placed_here l.here) (object_here l.here))
      (flat_map (relas_in (object_here l.here)) (take l.number-index l.section.relas.items)));
  left :
      l.left
      ≡ list_any (is_left (data_in l.layout) (placed_here l.here) (object_here l.here))
      (flat_map (relas_in (object_here l.here)) (take l.number-index l.section.relas.items));
}

use Rattle.std.proofs.Common.{◌≡◌, ◌∙◌, ◌++◌, ◌+◌, List, ap, arith, sym}
use Rattle.std.specs.Prelude.{slice_index}
use Rattle.std.specs.List.{flat_map, range_with_len}
use Rattle.elf_model.specs.declared.records.Rela.{Rela}
use Rattle.debug_image.specs.DebugLayouts.{data_in, object_here, placed_here}
use Rattle.debug_image.specs.DebugValues.{entries_at, entry_field, is_left}
use Rattle.debug_image.proofs.FieldSteps.{any_more, entries_more, marks_more}
use Rattle.debug_image.proofs.RangeSteps.{flat_map_range}
use Rattle.debug_image.proofs.debug_bytes.write_each.Goals as goal

pub loop-i-preserved : goal.loop-i-preserved
loop-i-preserved c =
    let h = c.args.here.now in
    let d = data_in c.args.layout.now in
    let g = entries_at (object_here h) h.place.now.piece.section in
    let old = flat_map g (range_with_len 0 c.loop-i.i) in
    let xs = c.entries_at-entries.result in
    let next : flat_map g (range_with_len 0 (c.loop-i.i + 1)) ≡ old ++ xs =
    flat_map_range g c.loop-i.i ∙ ap (λ (es : List Rela). old ++ es) (sym c.entries_at-entries.ensures) in record {
      bytes = λ k low.
          entries_more (entry_field d (placed_here h) (object_here h)) old xs _ k (slice_index c.args.bytes.now k) (slice_index c.loop-i.bytes k)
          (slice_index c.write_run.new.bytes k) next (c.loop-i.invariant.bytes k (omega arith)) (c.write_run.ensures.bytes k (omega arith));
      marks = λ k low.
          marks_more (entry_field d (placed_here h) (object_here h)) old xs _ k (slice_index c.args.marks.now k) (slice_index c.loop-i.marks k)
          (slice_index c.write_run.new.marks k) next (c.loop-i.invariant.marks k (omega arith)) (c.write_run.ensures.marks k (omega arith));
      left = any_more (is_left d (placed_here h) (object_here h)) old xs _ _ _ _ next c.loop-i.invariant.left c.write_run.ensures.left c.either-left.ensures;
    }

use Rattle.std.proofs.Common.{◌∙◌, ◌||◌, Bool, ap, arith, option_map, sym, take}
use Rattle.std.specs.Prelude.{slice_index}
use Rattle.std.specs.List.{list_any}
use Rattle.elf_read.specs.Reading.{null_rela}
use Rattle.debug_image.specs.DebugLayouts.{data_in, object_here, placed_here}
use Rattle.debug_image.specs.DebugValues.{entry_field, is_left}
use Rattle.debug_image.specs.DebugViews.{field_view}
use Rattle.debug_image.proofs.FieldSteps.{entry_more, mark_more}
use Rattle.debug_image.proofs.RangeSteps.{any_take}
use Rattle.debug_image.proofs.debug_bytes.write_run.Goals as goal

pub loop-i-preserved : goal.loop-i-preserved
loop-i-preserved c =
    let f = entry_field (data_in c.args.layout.now) (placed_here c.args.here.now) (object_here c.args.here.now) in
    let p = is_left (data_in c.args.layout.now) (placed_here c.args.here.now) (object_here c.args.here.now) in
    let es = c.args.entries.now in record {
      bytes = λ k low.
          entry_more f es c.loop-i.i null_rela (option_map field_view c.entry_field-field.result) k (slice_index c.args.bytes.now k)
          (slice_index c.loop-i.bytes k) (slice_index c.write_some.new.bytes k) (omega arith)
          (c.entry_field-field.ensures.exact ∙ ap f c.at-entry.ensures) (c.loop-i.invariant.bytes k (omega arith)) (c.write_some.ensures k (omega arith));
      marks = λ k low.
          mark_more f es c.loop-i.i null_rela (option_map field_view c.entry_field-field.result) k (slice_index c.args.marks.now k)
          (slice_index c.loop-i.marks k) (slice_index c.mark_some.new.marks k) (omega arith)
          (c.entry_field-field.ensures.exact ∙ ap f c.at-entry.ensures) (c.loop-i.invariant.marks k (omega arith)) (c.mark_some.ensures k (omega arith));
      left =
          c.either-left.ensures
          ∙ ap (λ (b : Bool). b || c.is_left.result) c.loop-i.invariant.left
          ∙ ap (λ (b : Bool). list_any p (take c.loop-i.i es) || b)
          (c.is_left.ensures (f c.at-entry.result) c.entry_field-field.ensures.exact ∙ ap p c.at-entry.ensures)
          ∙ sym (any_take p es c.loop-i.i null_rela (omega arith));
    }

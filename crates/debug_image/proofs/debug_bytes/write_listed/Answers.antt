use Rattle.std.proofs.Common.{◌≡◌, ◌∙◌, ◌++◌, ◌+◌, ℕ, List, ap, arith, get_or, length, sym, take}
use Rattle.std.specs.Prelude.{slice_index}
use Rattle.std.specs.List.{flat_map}
use Rattle.elf_model.specs.declared.records.Rela.{Rela}
use Rattle.debug_image.specs.DataIndexes.{relas_in}
use Rattle.debug_image.specs.DebugLayouts.{data_in, object_here, placed_here}
use Rattle.debug_image.specs.DebugValues.{entry_field, is_left}
use Rattle.debug_image.proofs.FieldSteps.{any_more, entries_more, marks_more}
use Rattle.debug_image.proofs.RangeSteps.{flat_map_take}
use Rattle.debug_image.proofs.debug_bytes.write_listed.Goals as goal

pub loop-number-preserved : goal.loop-number-preserved
loop-number-preserved c =
    let h = c.args.here.now in
    let d = data_in c.args.layout.now in
    let ns = c.args.section.now.relas.items in
    let n = c.loop-number.number-index in
    let test = c.loop-number-test.true in
    let long = ap (λ (ms : List ℕ). length ms) c.deref-number-items.ensures.value in
    let old = flat_map (relas_in (object_here h)) (take n ns) in
    let xs = c.entries-entries.result in
    let next : flat_map (relas_in (object_here h)) (take (n + 1) ns) ≡ old ++ xs =
    flat_map_take (relas_in (object_here h)) ns n 0 (grind (arith, test, long))
    ∙ ap (λ (es : List Rela). old ++ es)
    (ap (λ (ms : List ℕ). relas_in (object_here h) (get_or ms n 0)) (sym c.deref-number-items.ensures.value) ∙ sym c.entries-entries.ensures) in record {
      bytes = λ k low.
          entries_more (entry_field d (placed_here h) (object_here h)) old xs _ k (slice_index c.args.bytes.now k) (slice_index c.loop-number.bytes k)
          (slice_index c.write_run.new.bytes k) next (c.loop-number.invariant.bytes k (omega arith)) (c.write_run.ensures.bytes k (omega arith));
      marks = λ k low.
          marks_more (entry_field d (placed_here h) (object_here h)) old xs _ k (slice_index c.args.marks.now k) (slice_index c.loop-number.marks k)
          (slice_index c.write_run.new.marks k) next (c.loop-number.invariant.marks k (omega arith)) (c.write_run.ensures.marks k (omega arith));
      left = any_more (is_left d (placed_here h) (object_here h)) old xs _ _ _ _ next c.loop-number.invariant.left c.write_run.ensures.left c.either-left.ensures;
    }

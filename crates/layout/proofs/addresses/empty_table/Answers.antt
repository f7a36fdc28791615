use Rattle.std.proofs.Common.{List, ap, length, ◌∙◌}
use Rattle.elf_model.specs.declared.records.SectionHeader.{SectionHeader}
use Rattle.layout.proofs.Entries.{shape_more}
use Rattle.layout.proofs.addresses.empty_table.Goals as goal

pub loop-loaded-preserved : goal.loop-loaded-preserved
loop-loaded-preserved c = record {
  shape =
      shape_more c.loop-loaded.table.items c.add_row.new.table.items c.len-count.result c.args.objects.now c.loop-loaded.loaded-index c.loaded-item.result _
      c.loop-loaded-test.true c.loaded-item.is c.in_ok-add_row.ensures.shape
      (c.len-count.ensures ∙ ap (λ (hs : List SectionHeader). length hs) c.sections.ensures)
      c.loop-loaded.invariant.shape;
  empty = c.in_ok-add_row.ensures.empty c.loop-loaded.invariant.empty;
}

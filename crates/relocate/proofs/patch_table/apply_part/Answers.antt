use Rattle.relocate.proofs.WantedParts.{part_wanted}
use Rattle.relocate.specs.Values.{where_in}
use Rattle.relocate.proofs.patch_table.apply_part.Goals as goal

pub returns : goal.returns
returns c = λ p here there same.
    part_wanted c.args.patches.now.objects (where_in c.args.patches.now) c.args.section.object.0 c.args.section.section c.row_of-row.result.now c.row_of-row.ensures.fields
    p here there c.args.from c.args.bytes.now c.write_all.new.bytes c.reaching.result.now c.write_all.auto.bytes c.write_all.ensures c.reaching.ensures.found same

use Rattle.std.proofs.Common.{◌∙◌, List, map, subst, sym}
use Rattle.std.specs.Prelude.{All}
use Rattle.elf_model.specs.Image.MapRecord.{CommonRow}
use Rattle.elf_model.specs.Image.RightLink.{HasCommonLine}
use Rattle.linkmap.specs.Borrowed.{common_row}
use Rattle.place_judge.proofs.CommonLines.{every_line, every_name}
use Rattle.place_judge.proofs.Maps.{all_seen}
use Rattle.place_judge.proofs.commons.are_commons_right.Goals as goal

pub returns-then-collects : goal.returns-then-collects
returns-then-collects c =
    let rows = c.args.index.now in
    let objects = c.args.names.now in
    let Has : CommonRow → Type 0 = λ row. HasCommonLine rows objects row.name in
    let seen = all_seen Has common_row c.args.lines.now in (
      λ t. every_name rows objects c.args.collects c.if-collects.true (subst (All Has) (sym c.requires) (seen.0 (c.have_blocks.ensures.0 t))),
      λ each. c.have_blocks.ensures.1 (seen.1 (subst (All Has) c.requires (every_line rows objects c.args.collects each))),
    )

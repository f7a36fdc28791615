use Rattle.std.proofs.Common.{subst, sym}
use Rattle.std.specs.Prelude.{All}
use Rattle.std.proofs.lemmas.List.Elements.{All-map}
use Rattle.elf_model.proofs.Listed.{All-unmap}
use Rattle.elf_model.specs.Image.MapRecord.{CommonRow}
use Rattle.linkmap.specs.Borrowed.{common_row}
use Rattle.elf_model.specs.Image.RightLink.{HasCommonLine}
use Rattle.check_link.proofs.common_lines.CommonLines.have_blocks.Goals as goal

pub returns : goal.returns
returns c =
    let Has : CommonRow → Type 0 = λ row. HasCommonLine c.args.self.now c.args.names.now row.name in
    let lines = c.self.inside.lines.now in (
      λ e. subst (All Has) c.self.view_is (All-map Has common_row lines (c.lines_have_blocks.ensures.0 e)),
      λ all. c.lines_have_blocks.ensures.1 (All-unmap Has common_row lines (subst (All Has) (sym c.self.view_is) all)),
    )

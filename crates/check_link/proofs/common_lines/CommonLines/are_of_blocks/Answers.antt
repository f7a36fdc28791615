use Rattle.std.proofs.Common.{get_or, subst}
use Rattle.std.specs.Prelude.{All}
use Rattle.std.proofs.lemmas.List.Elements.{All-map}
use Rattle.elf_model.specs.Link.Commons.{Block}
use Rattle.elf_model.specs.Image.RightLink.{HasCommonLine}
use Rattle.check_link.specs.Views.{block_view}
use Rattle.check_link.proofs.CommonRows.{every_name}
use Rattle.check_link.proofs.common_lines.CommonLines.are_of_blocks.Goals as goal

pub returns-then-have_blocks : goal.returns-then-have_blocks
returns-then-have_blocks c =
    let Has : Block → Type 0 = λ b. HasCommonLine c.args.self.now c.args.names.now b.name in
    let found = c.blocks-then-have_blocks.result.now in (
      λ e. every_name c.args.self.now c.args.names.now (c.have_blocks.ensures.0 c.if-have_blocks.true)
          (subst (All Has) c.blocks-then-have_blocks.ensures (All-map Has block_view found (c.have_lines.ensures.0 e))),
      λ each. c.have_lines.ensures.1 (λ k d within. each (get_or found k d).name.now),
    )

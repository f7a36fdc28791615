use Rattle.std.proofs.Common.{drop}
use Rattle.std.specs.Prelude.{◌↔◌, All}
use Rattle.elf_model.specs.Image.RightLink.{HasCommonLine}
use Rattle.check_link.proofs.common_lines.CommonLines.have_lines.Given as goal

abbrev pub invariant-loop-block : goal.invariant-loop-block
invariant-loop-block l =
    All (λ b. HasCommonLine l.self l.names b.name.now) l.blocks ↔ All (λ b. HasCommonLine l.self l.names b.name.now) (drop l.block-index l.blocks)

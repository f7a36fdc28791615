use Rattle.std.proofs.Common.{drop}
use Rattle.std.specs.Prelude.{◌↔◌, All}
use Rattle.std.specs.Cow.{cow_slice_items}
use Rattle.elf_model.specs.Image.RightLink.{HasCommonLine}
use Rattle.place_judge.proofs.commons.have_blocks.Given as goal

abbrev pub invariant-loop-line : goal.invariant-loop-line
invariant-loop-line l =
    All (λ b. HasCommonLine l.index l.names (cow_slice_items b.name)) l.lines ↔ All (λ b. HasCommonLine l.index l.names (cow_slice_items b.name)) (drop l.line-index l.lines)

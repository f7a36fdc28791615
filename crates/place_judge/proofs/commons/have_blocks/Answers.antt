use Rattle.std.proofs.Common.{◌∙◌, ap, subst}
use Rattle.std.specs.Prelude.{All}
use Rattle.std.specs.Cow.{cow_slice_items}
use Rattle.elf_model.proofs.Rests.{all_more}
use Rattle.elf_model.specs.Image.RightLink.{HasCommonLine}
use Rattle.linkmap.specs.declared.borrowed.BorrowedCommon.{BorrowedCommon}
use Rattle.place_judge.proofs.commons.have_blocks.Goals as goal

pub loop-line-preserved : goal.loop-line-preserved
loop-line-preserved c =
    all_more (All (λ (b : BorrowedCommon). HasCommonLine c.args.index.now c.args.names.now (cow_slice_items b.name)) c.args.lines.now)
    (λ (b : BorrowedCommon). HasCommonLine c.args.index.now c.args.names.now (cow_slice_items b.name)) c.args.lines.now c.loop-line.line-index _ c.loop-line-test.true
    (subst (HasCommonLine c.args.index.now c.args.names.now) (c.deref.ensures.value ∙ ap (λ (l : BorrowedCommon). cow_slice_items l.name) c.line-item.is) (c.has_line.ensures.0 c.if-not-has_line.false)) c.loop-line.invariant

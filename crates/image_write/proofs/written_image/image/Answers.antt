use Rattle.std.proofs.Common.{◌∙◌, subst, sym}
use Rattle.std.specs.Prelude.{All}
use Rattle.elf_model.specs.Own.OwnLayout.{own_segments}
use Rattle.image_write.specs.Parts.{EndsLow}
use Rattle.image_write.proofs.OwnBody.{ends_low}
use Rattle.image_write.proofs.written_image.image.Goals as goal

pub file_end-size-requires : goal.file_end-size-requires
file_end-size-requires c =
    let l = c.args.linkage.now in
    let made = c.parts-parts.ensures.parts in
    subst (All EndsLow) (sym (c.segments.ensures ∙ (λ i. own_segments (made.placed i).base (made.placed i).objects)))
    (ends_low l.plan.base l.objects made.base made.objects made.kinds made.not_too_large)

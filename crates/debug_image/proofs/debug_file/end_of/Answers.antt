use Rattle.std.proofs.Common.{◌≡◌, ◌∙◌, List, ℕ, subst, sym, ap, arith}
use Rattle.std.specs.Prelude.{All}
use Rattle.elf_model.specs.Own.ImageFile.{own_end}
use Rattle.elf_model.specs.Image.MemoryImage.{file_end}
use Rattle.elf_model.specs.Own.OwnLayout.{own_segments}
use Rattle.elf_model.specs.declared.records.ProgramHeader.{ProgramHeader}
use Rattle.layout.specs.Placements.{Basis}
use Rattle.image_write.specs.Parts.{EndsLow}
use Rattle.image_write.proofs.OwnBody.{ends_low}
use Rattle.debug_image.proofs.LinkImages.{long}
use Rattle.debug_image.proofs.debug_file.end_of.Goals as goal

pub file_end-requires : goal.file_end-requires
file_end-requires c =
    let l = c.args.linkage.now in
    let made = c.parts.ensures.parts in
    subst (All EndsLow) (sym (c.segments.ensures ∙ (λ i. own_segments (made.placed i).base (made.placed i).objects)))
    (ends_low l.plan.base l.objects made.base made.objects made.kinds made.not_too_large)

-- the last file part ends where that of the layout does whose pieces are placed
end_is :
    (end : ℕ) (segments : List ProgramHeader) (placed own : Basis) → end ≡ file_end segments → segments ≡ own_segments placed.base placed.objects →
    placed ≡ own → end ≡ own_end own.base own.objects
end_is end segments placed own ends laid same =
    ends ∙ (ap file_end laid ∙ ap (λ (b : Basis). file_end (own_segments b.base b.objects)) same)

pub returns-clause-low : goal.returns-clause-low
returns-clause-low c =
    let is = end_is _ _ c.parts.result.now.placement _ c.file_end.ensures c.segments.ensures c.parts.ensures.parts.placed in
    let low = c.parts.ensures.parts.not_too_large.file in
    omega (arith, is, low)

pub returns-clause-long : goal.returns-clause-long
returns-clause-long c =
    let is = end_is _ _ c.parts.result.now.placement _ c.file_end.ensures c.segments.ensures c.parts.ensures.parts.placed in
    let some = long c.args.linkage.now c.parts.result.now c.parts.ensures.parts c.parts.ensures.listed in
    omega (arith, is, some)

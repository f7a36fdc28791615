use Rattle.std.proofs.Common.{◌≡◌, ◌∙◌, ap, false, true, subst, sym}
use Rattle.elf_model.specs.Image.MemoryImage.{IsImage}
use Rattle.elf_model.specs.Image.RightLink.{Subject}
use Rattle.check_places.proofs.ImageFaults.{no_image}
use Rattle.check_places.proofs.c04_image.load.Goals as goal

pub returns-else-is_memory-clause-image : goal.returns-else-is_memory-clause-image
returns-else-is_memory-clause-image c =
    let image = c.new.ensures ∙ ap (λ (s : Subject). s.image) c.link.view_is in (
      λ e. absurd (cc),
      λ i. absurd
          (no_image c.new.result c.in-Err.fault (λ e. let f : false ≡ true = c.if-is_memory.ensures.1 e in cc) c.in-Err.ensures.fault
          (subst IsImage (sym image) i)),
    )

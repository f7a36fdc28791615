use Rattle.std.proofs.Common.{ℕ, ◌≤◌, ◌^◌, ◌∙◌, ap, length, subst, sym}
use Rattle.elf_model.specs.Image.MemoryImage.{file_end}
use Rattle.check_stages.proofs.PartsEnd.{ends_inside, ends_low}
use Rattle.check_stages.proofs.segments.file_end.Goals as goal

pub returns-clause-inside : goal.returns-clause-inside
returns-clause-inside c =
    subst (λ (n : ℕ). n ≤ length c.args.memory.now) (sym (c.end_of_parts.ensures ∙ ap file_end c.segments.ensures))
    (ends_inside c.args.memory.now c.image-image.ensures.accepted)

pub returns-clause-low : goal.returns-clause-low
returns-clause-low c =
    subst (λ (n : ℕ). n ≤ 2 ^ 46) (sym (c.end_of_parts.ensures ∙ ap file_end c.segments.ensures))
    (ends_low c.args.memory.now c.image-image.ensures.accepted)

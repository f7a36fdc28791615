use Rattle.std.proofs.Common.{◌∙◌, ap, replicate, sym, ℕ}
use Rattle.file_io.proofs.zero_pages.begins_with_zeros.Goals as goal

pub returns-clause-zeros : goal.returns-clause-zeros
returns-clause-zeros c same =
    sym c.split_at.ensures.front
    ∙ (c.are_zeros.ensures same
    ∙ ap (λ (n : ℕ). replicate n 0) c.split_at.ensures.front_len)

use Rattle.std.proofs.Common.{◌∙◌, ap, arith, replicate, sym, ℕ}
use Rattle.std.proofs.lemmas.List.{take-replicate}
use Rattle.file_io.proofs.file_sink.zeros.Goals as goal

pub returns-clause-zeros : goal.returns-clause-zeros
returns-clause-zeros c =
    let e = c.split_at.ensures in
    e.front ∙ (take-replicate c.min.result 4096 0 (omega (arith, c.min.ensures)) ∙ ap (λ (n : ℕ). replicate n 0) (sym e.front_len))

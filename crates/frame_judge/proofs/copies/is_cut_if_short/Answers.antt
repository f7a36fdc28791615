use Rattle.std.proofs.Common.{arith}
use Rattle.frame_judge.proofs.copies.is_cut_if_short.Goals as goal

pub returns : goal.returns
returns c =
    let short = c.if-record-size.false in
    (λ t less. c.is_cut_right.ensures.0 t, λ h. c.is_cut_right.ensures.1 (h (omega (arith, short))))

use Rattle.std.proofs.Common.{◌≡◌, ◌∙◌, List, ℕ, ap, sym}
use Rattle.judge_model.specs.FrameCode.{is_cut_at}
use Rattle.frame_judge.proofs.copies.is_cut_right.Goals as goal

pub returns : goal.returns
returns c =
    let same = ap (λ (bs : List ℕ). is_cut_at bs c.args.record.now c.args.size) (sym c.bytes.ensures) ∙ sym c.is_cut_at.ensures ∙ c.if-not-is_cut_at.false in
    (λ t. (same, c.are_beside_record.ensures.0 t), λ h. c.are_beside_record.ensures.1 h.1)

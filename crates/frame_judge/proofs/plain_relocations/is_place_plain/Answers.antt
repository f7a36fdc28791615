use Rattle.std.proofs.Common.{List, ℕ, ap, sym, ◌∙◌}
use Rattle.std.specs.Prelude.{Any, option_copied}
use Rattle.judge_model.specs.Frames.{IsAround, frames_at, records_of}
use Rattle.frame_judge.proofs.Found.{if_found}
use Rattle.frame_judge.proofs.plain_relocations.is_place_plain.Goals as goal

pub returns-in-Some : goal.returns-in-Some
returns-in-Some c = λ r same.
    let found =
    if_found (λ (b : List ℕ). Any (IsAround r) (records_of b)) (frames_at c.args.framed.now c.args.number c.args.relocation.now.section)
    c.in-Some.frames.now (sym (ap option_copied c.in-Some.is) ∙ c.find.ensures) in
    let own = c.lies_in_record.ensures r same in
    (λ t. found.0 (own.0 t), λ h. own.1 (found.1 h))

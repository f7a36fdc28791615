use Rattle.std.proofs.Common.{List, ℕ, subst, sym, ◌∙◌}
use Rattle.std.specs.Prelude.{All}
use Rattle.std.proofs.lemmas.Bool.{false≢true}
use Rattle.judge_model.specs.Frames.{IsEnded}
use Rattle.frame_judge.proofs.EndLaws.{open_in, open_of}
use Rattle.frame_judge.proofs.list.is_ended_as.Goals as goal

pub returns-else-is_ended : goal.returns-else-is_ended
returns-else-is_ended c =
    let ps = c.args.framed.now in
    let none : List (List ℕ) → Type 0 = All (λ (b : List ℕ). ¬ IsEnded b) in (
      λ t some. absurd (open_of ps (subst none c.frames.ensures (c.are_open.ensures.0 t)) some),
      λ h. c.are_open.ensures.1
          (subst none (sym c.frames.ensures)
          (open_in ps (λ some. false≢true (sym c.if-is_ended.false ∙ c.is_ended.ensures.1 (h some))))),
    )

use Rattle.std.proofs.Common.{◌∙◌, List, subst, sym, ℕ}
use Rattle.std.specs.Prelude.{◌↔◌}
use Rattle.code_fill.specs.Padded.{whole}
use Rattle.judge_model.specs.Fill.{IsCodeFill}
use Rattle.code_fill.proofs.Runs.{fill_end, fill_further}
use Rattle.code_fill.proofs.fillers.is_code_fill.Goals as goal

pub loop-len-preserved : goal.loop-len-preserved
loop-len-preserved c =
    let step =
    subst (λ (r : List ℕ). IsCodeFill (whole c.loop-len.rest) ↔ IsCodeFill r) (sym c.behind-rest.ensures.exact)
    (fill_further (whole c.loop-len.rest) c.in-Some.len (sym c.in-Some.ensures.exact)) in
    (λ a. step.0 (c.loop-len.invariant.0 a), λ r. c.loop-len.invariant.1 (step.1 r))

pub returns : goal.returns
returns c =
    let end = fill_end (whole c.loop-len.rest) (sym c.filler_at.ensures.exact ∙ c.in_default.is) in (
      λ yes. c.loop-len.invariant.1 (end.1 (c.are_zeros.ensures.0 yes)),
      λ a. c.are_zeros.ensures.1 (end.0 (c.loop-len.invariant.0 a)),
    )

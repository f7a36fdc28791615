use Rattle.std.proofs.Common.{◌∙◌, List, subst, sym, ℕ}
use Rattle.std.specs.Prelude.{◌↔◌}
use Rattle.code_fill.specs.Padded.{whole}
use Rattle.judge_model.specs.Fill.{AreNops}
use Rattle.code_fill.proofs.Runs.{nops_end, nops_further}
use Rattle.code_fill.proofs.fillers.are_nops.Goals as goal

pub loop-len-preserved : goal.loop-len-preserved
loop-len-preserved c =
    let step =
    subst (λ (r : List ℕ). AreNops (whole c.loop-len.rest) ↔ AreNops r) (sym c.behind-rest.ensures.exact)
    (nops_further (whole c.loop-len.rest) c.in-Some.len (sym c.in-Some.ensures.exact)) in
    (λ a. step.0 (c.loop-len.invariant.0 a), λ r. c.loop-len.invariant.1 (step.1 r))

pub returns : goal.returns
returns c =
    let end = nops_end (whole c.loop-len.rest) (sym c.nop_at.ensures.exact ∙ c.in_default.is) in (
      λ yes. c.loop-len.invariant.1 (end.1 (c.is_empty.ensures.0 yes)),
      λ a. c.is_empty.ensures.1 (end.0 (c.loop-len.invariant.0 a)),
    )

use Rattle.std.proofs.Common.{subst, sym, ◌∙◌}
use Rattle.std.proofs.lemmas.Bool.{false≢true}
use Rattle.byteview.proofs.Vectors.{all_at_first, all_of_parts}
use Rattle.byteview.specs.Runs.{IsAll}
use Rattle.byteview.proofs.compare.all_byte.Goals as goal

pub returns-then-not-is_all : goal.returns-then-not-is_all
returns-then-not-is_all c = (
  λ t. absurd (false≢true t),
  λ all. sym c.if-not-is_all.true ∙ c.is_all.ensures.1 (all_at_first 16 c.args.x c.vectors.rest.now c.vectors-test.true (c.vectors.invariant.0 all)),
)

pub vectors-preserved : goal.vectors-preserved
vectors-preserved c =
    let step = all_of_parts 16 c.args.x c.vectors.rest.now c.vectors-test.true (c.is_all.ensures.0 c.if-not-is_all.false) in
    let after = c.split_at.ensures.back in (
      λ all. subst (IsAll c.args.x) (sym after) (step.0 (c.vectors.invariant.0 all)),
      λ all. c.vectors.invariant.1 (step.1 (subst (IsAll c.args.x) after all)),
    )

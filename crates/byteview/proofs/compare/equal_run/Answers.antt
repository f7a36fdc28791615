use Rattle.std.proofs.Common.{sym, ◌∙◌, arith}
use Rattle.byteview.proofs.Vectors.{same_of_parts}
use Rattle.byteview.proofs.compare.equal_run.Goals as goal

pub vectors-preserved : goal.vectors-preserved
vectors-preserved c =
    let step = same_of_parts 32 c.vectors.a_rest.now c.vectors.b_rest.now (c.agree.ensures.0 c.if-not-agree.false) in
    let a = c.split_at.ensures.back in
    let b = c.split_at-in-vectors.ensures.back in
    let long = c.vectors.invariant.long in
    let a_len = c.split_at.ensures.back_len in
    let b_len = c.split_at-in-vectors.ensures.back_len in
    record {
      long = omega (arith, long, a_len, b_len);
      same = (
        λ same. a ∙ (step.0 (c.vectors.invariant.same.0 same) ∙ sym b),
        λ same. c.vectors.invariant.same.1 (step.1 (sym a ∙ (same ∙ b))),
      );
    }

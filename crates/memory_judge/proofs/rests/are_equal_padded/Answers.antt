use Rattle.std.proofs.Common.{length, sym, subst, ◌∙◌}
use Rattle.std.proofs.Math.Nat.{min_comm}
use Rattle.memory_judge.proofs.Padded.{AreZeros, padded_from_parts, zeros_from_padded}
use Rattle.memory_judge.proofs.rests.are_equal_padded.Goals as goal

pub returns : goal.returns
returns c = (
  λ e. padded_from_parts c.args.a.now c.args.b.now c.min-common.result
      (sym c.split_at.ensures.front ∙ (c.equal_run.ensures.0 c.if-not-equal_run.false ∙ c.split_at-2.ensures.front))
      (subst AreZeros c.split_at.ensures.back (c.all_byte.ensures.0 c.if-not-all_byte.false))
      (subst AreZeros c.split_at-2.ensures.back (c.all_byte-2.ensures.0 e)),
  λ same. c.all_byte-2.ensures.1
      (subst AreZeros (sym c.split_at-2.ensures.back)
      (zeros_from_padded c.args.b.now c.args.a.now c.min-common.result (c.min-common.ensures ∙ min_comm (length c.args.a.now) (length c.args.b.now)) (λ k. sym (same k)))),
)

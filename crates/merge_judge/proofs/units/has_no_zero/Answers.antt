use Rattle.std.proofs.Common.{◌+◌, ◌*◌, ◌<◌, ◌≤◌, ◌⊎◌, ℕ, arith, inl, inr, subst, sym, ◌∙◌}
use Rattle.std.proofs.lemmas.Bool.{cases_lt, false≢true}
use Rattle.judge_model.specs.Merged.{IsZeroUnit}
use Rattle.merge_judge.proofs.units.has_no_zero.Goals as goal

pub loop-j-preserved : goal.loop-j-preserved
loop-j-preserved c = λ j low. by j low (cases_lt j c.loop-j.j)
  where
    by : (j : ℕ) → j < c.loop-j.j + 1 → (j < c.loop-j.j) ⊎ (c.loop-j.j ≤ j) → ¬ IsZeroUnit c.args.bytes.now c.args.e (c.args.offset + j * c.args.e)
    by j low (inl less) = c.loop-j.invariant j less
    by j low (inr more) =
        subst (λ (i : ℕ). ¬ IsZeroUnit c.args.bytes.now c.args.e (c.args.offset + i * c.args.e)) (omega (arith, low, more))
        (λ zero. false≢true (sym c.if-is_zero_unit.false ∙ c.is_zero_unit.ensures.1 zero))

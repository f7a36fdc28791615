use Rattle.std.proofs.Common.{◌+◌, ◌<◌, ◌≤◌, ◌⊎◌, ℕ, arith, inl, inr, subst}
use Rattle.std.specs.Prelude.{IsSome}
use Rattle.std.proofs.lemmas.Bool.{cases_lt}
use Rattle.elf_model.specs.Image.RightLink.{byte_at}
use Rattle.note_judge.proofs.notes.is_mapped.Goals as goal

pub loop-offset-preserved : goal.loop-offset-preserved
loop-offset-preserved c k low = by (cases_lt k c.loop-offset.offset)
  where
    by : (k < c.loop-offset.offset) ⊎ (c.loop-offset.offset ≤ k) → IsSome (byte_at c.args.image.now (c.args.at + k))
    by (inl less) = c.loop-offset.invariant k less
    by (inr more) =
        subst (λ (j : ℕ). IsSome (byte_at c.args.image.now (c.args.at + j))) (omega (arith, low, more))
        (c.has_byte.ensures.0 c.if-not-has_byte.false)

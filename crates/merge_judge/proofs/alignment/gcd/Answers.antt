use Rattle.std.proofs.Common.{arith}
use Rattle.std.proofs.lemmas.Nat.Gcd.{IsGcd-from_mod, IsGcd-from_zero}
use Rattle.merge_judge.proofs.alignment.gcd.Goals as goal

pub steps-preserved : goal.steps-preserved
steps-preserved c = λ g h. c.steps.invariant g (IsGcd-from_mod c.steps.x c.steps.y g h)

pub returns : goal.returns
returns c = c.steps.invariant c.steps.x (IsGcd-from_zero c.steps.x c.steps.y (omega (arith, c.steps-test.false)))

use Rattle.std.proofs.Common.{◌≡◌, ℕ, ◌+◌, ◌≤◌, max, arith}
use Rattle.std.specs.Prelude.{◌↔◌, All}
use Rattle.judge_model.specs.declared.certificate.StretchLine.{StretchLine}
use Rattle.name_judge.proofs.ClearSteps.{noted_all, noted_more, noted_none}
use Rattle.name_judge.specs.Clear.{EndsBy}
use Rattle.name_judge.proofs.marks.end_of_stretches.Goals as goal

max_ends : (v r e : ℕ) (n : StretchLine) → r ≡ max e (n.address + n.size) → (r ≤ v) ↔ ((e ≤ v) × EndsBy v n)
max_ends v r e n is = (
  λ low. (omega (arith, is, low), record { end = omega (arith, is, low) }),
  λ both. let end = both.1.end in let before = both.0 in omega (arith, is, before, end),
)

pub loop-stretch-init : goal.loop-stretch-init
loop-stretch-init c = λ v. noted_none (EndsBy v) c.args.stretches.now (0 ≤ v) (omega arith)

pub loop-stretch-preserved : goal.loop-stretch-preserved
loop-stretch-preserved c = λ v.
    noted_more (EndsBy v) c.args.stretches.now (c.loop-stretch.end ≤ v) (c.max-end.result ≤ v) (All (EndsBy v) c.args.stretches.now) c.loop-stretch.stretch-index
    _ c.loop-stretch-test.true (max_ends v c.max-end.result c.loop-stretch.end _ c.max-end.ensures) (c.loop-stretch.invariant v)

pub returns : goal.returns
returns c = record {
  told = λ v.
      noted_all (EndsBy v) c.args.stretches.now (c.loop-stretch.end ≤ v) (All (EndsBy v) c.args.stretches.now) c.loop-stretch.stretch-index
      (omega (arith, c.loop-stretch-test.false)) (c.loop-stretch.invariant v);
}

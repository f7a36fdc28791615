use Rattle.std.proofs.Common.{arith, refl, sym, ◌∙◌}
use Rattle.std.specs.Prelude.{All}
use Rattle.std.proofs.lemmas.Bool.{false≢true}
use Rattle.elf_model.proofs.Rests.{all_end, all_more, all_stop}
use Rattle.judge_model.specs.Headers.{IsSingle}
use Rattle.foreign_image.proofs.table.are_single.Goals as goal

pub returns-then-not-is_single : goal.returns-then-not-is_single
returns-then-not-is_single c = (
  λ t. absurd (false≢true t),
  λ all.
      absurd
      (all_stop (All (IsSingle c.args.headers.now) c.args.types.now) (IsSingle c.args.headers.now) c.args.types.now c.loop-kind.kind-index 0
      (omega (arith, c.loop-kind-test.true)) (λ p. false≢true (sym c.if-not-is_single.true ∙ c.is_single.ensures.1 p))
      c.loop-kind.invariant all),
)

pub loop-kind-preserved : goal.loop-kind-preserved
loop-kind-preserved c =
    all_more (All (IsSingle c.args.headers.now) c.args.types.now) (IsSingle c.args.headers.now) c.args.types.now c.loop-kind.kind-index 0
    (omega (arith, c.loop-kind-test.true)) (c.is_single.ensures.0 c.if-not-is_single.false) c.loop-kind.invariant

pub returns : goal.returns
returns c = (
  λ t.
      all_end (All (IsSingle c.args.headers.now) c.args.types.now) (IsSingle c.args.headers.now) c.args.types.now c.loop-kind.kind-index
      (omega (arith, c.loop-kind-test.false)) c.loop-kind.invariant,
  λ all. refl,
)

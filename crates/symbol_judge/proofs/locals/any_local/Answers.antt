use Rattle.std.proofs.Common.{◌∙◌, arith, refl, sym}
use Rattle.std.proofs.lemmas.Bool.{false≢true}
use Rattle.symbol_judge.specs.Locals.{IsLocalBy}
use Rattle.symbol_judge.proofs.PartLaws.{any_at, any_end, any_next}
use Rattle.symbol_judge.proofs.locals.any_local.Goals as goal

pub loop-local-init : goal.loop-local-init
loop-local-init c = λ some. some

pub loop-local-preserved : goal.loop-local-preserved
loop-local-preserved c =
    let P = IsLocalBy c.args.sections.now c.args.number c.args.entry.now in
    λ some.
    any_next P c.args.part.now c.loop-local.local-index _ c.loop-local-test.true
    (λ h. false≢true (sym c.if-is_local_by.false ∙ c.is_local_by.ensures.1 h)) (c.loop-local.invariant some)

pub returns-then-is_local_by : goal.returns-then-is_local_by
returns-then-is_local_by c =
    let P = IsLocalBy c.args.sections.now c.args.number c.args.entry.now in (
      λ t. any_at P c.args.part.now c.loop-local.local-index _ c.loop-local-test.true (c.is_local_by.ensures.0 c.if-is_local_by.true),
      λ some. refl,
    )

pub returns : goal.returns
returns c =
    let P = IsLocalBy c.args.sections.now c.args.number c.args.entry.now in (
      λ t. absurd (false≢true t),
      λ some. absurd (any_end P c.args.part.now c.loop-local.local-index (omega (arith, c.loop-local-test.false)) (c.loop-local.invariant some)),
    )

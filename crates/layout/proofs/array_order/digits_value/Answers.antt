use Rattle.std.proofs.Common.{arith, ap, ◌∙◌}
use Rattle.std.specs.Str.Parse.{digits_value}
use Rattle.std.proofs.lemmas.List.{take_all}
use Rattle.layout.proofs.ArraySteps.{small_step}
use Rattle.layout.proofs.array_order.digits_value.Goals as goal

pub overflow_mul-value : goal.overflow_mul-value
overflow_mul-value c = let s = small_step c.args.digits.now c.loop-digit.digit-index c.requires.digits c.requires.short (omega arith) in omega (arith, s.more, s.small)

pub overflow_add-value : goal.overflow_add-value
overflow_add-value c = let s = small_step c.args.digits.now c.loop-digit.digit-index c.requires.digits c.requires.short (omega arith) in omega (arith, s.more, s.small)

pub loop-digit-preserved : goal.loop-digit-preserved
loop-digit-preserved c =
    let s = small_step c.args.digits.now c.loop-digit.digit-index c.requires.digits c.requires.short (omega arith) in
    omega (arith, s.more, c.loop-digit.invariant)

pub returns : goal.returns
returns c =
    let whole = ap (digits_value 10) (take_all c.loop-digit.digit-index c.args.digits.now (omega arith)) in
    c.loop-digit.invariant ∙ whole

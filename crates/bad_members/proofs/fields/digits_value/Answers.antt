use Rattle.std.proofs.Common.{ap, ◌∙◌, arith}
use Rattle.std.specs.Str.Parse.{digits_value}
use Rattle.std.proofs.lemmas.List.{take_all}
use Rattle.elf_model.proofs.DecimalDigits.{digit_step, digits_small}
use Rattle.bad_members.proofs.fields.digits_value.Goals as goal

pub overflow_sub-digit : goal.overflow_sub-digit
overflow_sub-digit c = (digit_step c.args.digits.now c.loop-digit.digit-index c.requires.digits (omega arith)).low

pub overflow_mul-value : goal.overflow_mul-value
overflow_mul-value c =
    let s = digit_step c.args.digits.now c.loop-digit.digit-index c.requires.digits (omega arith) in
    let small = digits_small c.args.digits.now c.requires.digits c.requires.few in
    omega (arith, s.more, s.within, small, c.loop-digit.invariant)

pub overflow_add-value : goal.overflow_add-value
overflow_add-value c =
    let s = digit_step c.args.digits.now c.loop-digit.digit-index c.requires.digits (omega arith) in
    let small = digits_small c.args.digits.now c.requires.digits c.requires.few in
    omega (arith, s.more, s.within, small, c.loop-digit.invariant, c.from.ensures)

pub loop-digit-preserved : goal.loop-digit-preserved
loop-digit-preserved c =
    let s = digit_step c.args.digits.now c.loop-digit.digit-index c.requires.digits (omega arith) in
    omega (arith, s.more, c.loop-digit.invariant, c.from.ensures)

pub returns-clause-value : goal.returns-clause-value
returns-clause-value c = c.loop-digit.invariant ∙ ap (digits_value 10) (take_all c.loop-digit.digit-index c.args.digits.now (omega arith))

pub returns-clause-small : goal.returns-clause-small
returns-clause-small c =
    let whole = c.loop-digit.invariant ∙ ap (digits_value 10) (take_all c.loop-digit.digit-index c.args.digits.now (omega arith)) in
    let small = digits_small c.args.digits.now c.requires.digits c.requires.few in
    omega (arith, whole, small)

use Rattle.std.proofs.Common.{arith}
use Rattle.std.proofs.Common.{ap}
use Rattle.std.specs.Str.Parse.{digits_value}
use Rattle.std.proofs.lemmas.List.{take_all}
use Rattle.elf_model.proofs.DecimalDigits.{digit_step}
use Rattle.linkmap.proofs.digits.digits_value.Goals as goal

pub overflow_sub-digit : goal.overflow_sub-digit
overflow_sub-digit c = (digit_step c.args.digits.now c.loop-digit.digit-index c.requires (omega arith)).low

pub returns-in_err-checked_mul : goal.returns-in_err-checked_mul
returns-in_err-checked_mul c =
    let s = digit_step c.args.digits.now c.loop-digit.digit-index c.requires (omega arith) in
    rw c.from_residual.ensures (λ small. c.in_err-checked_mul.ensures (omega (arith, s.more, s.within)))

pub returns-in_err-value : goal.returns-in_err-value
returns-in_err-value c =
    let s = digit_step c.args.digits.now c.loop-digit.digit-index c.requires (omega arith) in
    rw c.from_residual-in_err-value.ensures (λ small. c.in_err-value.ensures (omega (arith, s.more, s.within, c.in_ok-checked_mul.ensures)))

pub loop-digit-preserved : goal.loop-digit-preserved
loop-digit-preserved c =
    let s = digit_step c.args.digits.now c.loop-digit.digit-index c.requires (omega arith) in
    record {
      fits = omega (arith, c.in_ok-value.ensures);
      is = omega (arith, s.more, c.in_ok-checked_mul.ensures, c.in_ok-value.ensures);
    }

pub returns : goal.returns
returns c =
    let whole = ap (digits_value 10) (take_all c.loop-digit.digit-index c.args.digits.now (omega arith)) in
    (omega arith, omega arith)

use Rattle.std.proofs.Common.{ap, arith}
use Rattle.std.specs.Str.Parse.{digits_value}
use Rattle.std.proofs.lemmas.List.{take_all}
use Rattle.elf_model.proofs.DecimalDigits.{digit_step, digits_small}
use Rattle.run_judge.proofs.RankLaws.{are_ascii_digits}
use Rattle.run_judge.proofs.ranks.value_of.Goals as goal

pub overflow_sub-digit : goal.overflow_sub-digit
overflow_sub-digit c = (digit_step c.args.digits.now c.loop-digit.digit-index (are_ascii_digits c.args.digits.now c.requires.digits) (omega arith)).low

pub overflow_mul-value : goal.overflow_mul-value
overflow_mul-value c =
    let s = digit_step c.args.digits.now c.loop-digit.digit-index (are_ascii_digits c.args.digits.now c.requires.digits) (omega arith) in
    let small = digits_small c.args.digits.now (are_ascii_digits c.args.digits.now c.requires.digits) (omega arith) in
    let more = s.more in
    let within = s.within in
    omega arith

pub overflow_add-value : goal.overflow_add-value
overflow_add-value c =
    let s = digit_step c.args.digits.now c.loop-digit.digit-index (are_ascii_digits c.args.digits.now c.requires.digits) (omega arith) in
    let small = digits_small c.args.digits.now (are_ascii_digits c.args.digits.now c.requires.digits) (omega arith) in
    let more = s.more in
    let within = s.within in
    omega arith

pub loop-digit-preserved : goal.loop-digit-preserved
loop-digit-preserved c =
    let s = digit_step c.args.digits.now c.loop-digit.digit-index (are_ascii_digits c.args.digits.now c.requires.digits) (omega arith) in
    let more = s.more in
    omega arith

pub returns-clause-value : goal.returns-clause-value
returns-clause-value c =
    let whole = ap (digits_value 10) (take_all c.loop-digit.digit-index c.args.digits.now (omega arith)) in
    omega arith

pub returns-clause-low : goal.returns-clause-low
returns-clause-low c =
    let whole = ap (digits_value 10) (take_all c.loop-digit.digit-index c.args.digits.now (omega arith)) in
    let small = digits_small c.args.digits.now (are_ascii_digits c.args.digits.now c.requires.digits) (omega arith) in
    omega arith

use Rattle.std.proofs.Common.{◌∙◌, Some, ap, arith, sym}
use Rattle.std.specs.Option.{option_map}
use Rattle.std.proofs.lemmas.Str.Pattern.{split_parts}
use Rattle.judge_model.specs.Words.{section_at}
use Rattle.foreign_words.proofs.Starts.{start_at}
use Rattle.foreign_words.proofs.numbers.section_start.Goals as goal

pub returns-in_err-address : goal.returns-in_err-address
returns-in_err-address c =
    let name = c.in_ok-name.name in
    let digits = c.in_ok-name.digits in
    let parts = split_parts 61 c.args.value.now (Some (name, digits)) c.in_ok-name.ensures.cases (omega arith) in
    let start = start_at c.args.value.now name.now digits.now parts.0 parts.1 in
    rw c.from_residual-in_err-address.ensures
    (sym (start ∙ ap (option_map (section_at name.now)) (sym c.hexadecimal.ensures ∙ c.in_err-address.was)))

pub returns : goal.returns
returns c =
    let name = c.in_ok-name.name in
    let digits = c.in_ok-name.digits in
    let parts = split_parts 61 c.args.value.now (Some (name, digits)) c.in_ok-name.ensures.cases (omega arith) in
    let start = start_at c.args.value.now name.now digits.now parts.0 parts.1 in
    sym (start ∙ ap (option_map (section_at name.now)) (sym c.hexadecimal.ensures ∙ c.in_ok-address.was))

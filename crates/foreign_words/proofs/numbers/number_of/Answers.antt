use Rattle.std.proofs.Common.{◌≡◌, ◌∙◌, true}
use Rattle.elf_model.specs.Inputs.Command.{is_hexadecimal}
use Rattle.command.proofs.Hexadecimal.{number_is}
use Rattle.foreign_words.proofs.numbers.number_of.Goals as goal

pub returns : goal.returns
returns c =
    let holds : is_hexadecimal c.args.digits.now ≡ true = cc in
    c.ok.ensures.value ∙ number_is c.args.digits.now _ holds c.from_str_radix.ensures.value

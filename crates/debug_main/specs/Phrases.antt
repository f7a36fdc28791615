-- A phrase as the code has it.
use Rattle.std.specs.Prelude.{string_bytes}
use Rattle.std.specs.Option.{option_map}
use Rattle.elf_model.specs.Inputs.Command.{Said}
use Rattle.debug_main.specs.declared.words.First.{First}

abbrev pub said_of : First → Said
said_of f = record { word = string_bytes f.word.now; value = option_map (λ v. string_bytes v.now) f.value }

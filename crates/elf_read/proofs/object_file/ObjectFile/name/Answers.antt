use Rattle.std.proofs.Common.{ap, sym, ◌∙◌}
use Rattle.elf_model.specs.Inputs.ObjectFile.{symbol_name}
use Rattle.elf_read.proofs.Named.{symbol_told}
use Rattle.elf_read.proofs.object_file.ObjectFile.name.Goals as goal

pub returns : goal.returns
returns c =
    symbol_told c.self.inside.file c.self.inside.symbol_strings c.self.inside.symbols c.args.j c.in_ok-symbol.symbol _ c.self.invariant.object
    c.self.invariant.symbol_strings_are c.self.invariant.symbols_are (sym c.get.ensures ∙ c.in_ok-symbol.was) c.text_at.ensures
    ∙ ap (λ bs. symbol_name bs c.args.j) c.self.view_is

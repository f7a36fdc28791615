use Rattle.std.proofs.Common.{ap, ◌∙◌}
use Rattle.std.specs.Prelude.{slice_index_or, unwrap_or}
use Rattle.std.proofs.lemmas.Option.{unwrap_or-slice_get}
use Rattle.elf_model.specs.Inputs.ObjectFile.{null_symbol, symbols}
use Rattle.elf_read.proofs.object_file.ObjectFile.symbol.Goals as goal

pub returns : goal.returns
returns c =
    c.unwrap_or.ensures ∙ ap (λ o. unwrap_or o null_symbol) c.get.ensures ∙ unwrap_or-slice_get c.self.inside.symbols c.args.j null_symbol
    ∙ ap (λ ss. slice_index_or ss c.args.j null_symbol) (c.self.invariant.symbols_are ∙ ap symbols c.self.view_is)

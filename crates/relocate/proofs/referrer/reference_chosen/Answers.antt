use Rattle.std.proofs.Common.{◌∙◌, ap, refl}
use Rattle.elf_model.specs.Link.Loading.{is_dropped}
use Rattle.elf_model.specs.declared.records.Symbol.{Symbol}
use Rattle.search.specs.Views.{loaded_view}
use Rattle.relocate.proofs.ChosenReferences.{is_reference}
use Rattle.relocate.proofs.referrer.reference_chosen.Goals as goal

pub returns : goal.returns
returns c =
    let o = loaded_view c.args.loaded.now in
    is_reference c.args.resolved.now c.args._number o c.args.j c.args.thread_local _ c.requires.here c.requires.chosen refl refl
    (c.is_dropped.ensures ∙ ap (λ (s : Symbol). is_dropped o s.st_shndx) c.symbol.ensures) refl refl

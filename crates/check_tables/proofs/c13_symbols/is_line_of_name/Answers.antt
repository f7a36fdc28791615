use Rattle.std.proofs.Common.{Option, ap, sym, ◌∙◌}
use Rattle.std.specs.Prelude.{option_map}
use Rattle.elf_model.specs.Image.RightLink.{symbol_row_of}
use Rattle.check_link.specs.Views.{meaning_view}
use Rattle.check_link.specs.declared.things.Meaning as code
use Rattle.check_tables.proofs.SymbolLines.{means_linker}
use Rattle.check_tables.proofs.c13_symbols.is_line_of_name.Goals as goal

pub returns-in-None : goal.returns-in-None
returns-in-None c =
    let L = c.args.bindings.now.objects in
    let none = sym c.requires.meaning ∙ ap (λ (m : Option code.Meaning). option_map meaning_view m) c.in-None.is in
    let same = ap (option_map (symbol_row_of c.args.bindings.now.places)) (means_linker L c.args.line.now.name.now none) in (
      λ t. same ∙ c.is_linkers_line.ensures.0 t,
      λ e. c.is_linkers_line.ensures.1 (sym same ∙ e),
    )

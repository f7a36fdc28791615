use Rattle.std.proofs.Common.{◌∙◌, None, Option, ap, cond, option_map, rules, sym}
use Rattle.elf_model.proofs.LinkerUses.{line_among}
use Rattle.elf_model.specs.Link.LinkerNames.{bound_of}
use Rattle.elf_model.specs.Link.Meaning.{Linker, Meaning}
use Rattle.check_tables.proofs.SymbolLines.{means_linker}
use Rattle.check_tables.proofs.c13_symbols.listed_meaning.Goals as goal

pub returns-in-None : goal.returns-in-None
returns-in-None c =
    let L = c.args.bindings.now.objects in
    let name = c.args.name.now in
    c.linker_meaning.ensures
    ∙ (ap (λ b. cond {A = Option Meaning} b (option_map (Linker name) (bound_of L name)) None) (sym c.if-contains.true ∙ c.contains.ensures)
    ∙ (line_among L c.args.names.now c.requires name ∙ sym (means_linker L name (search rules))))

pub returns-in-None-2 : goal.returns-in-None-2
returns-in-None-2 c =
    let L = c.args.bindings.now.objects in
    let name = c.args.name.now in
    ap (λ b. cond {A = Option Meaning} b (option_map (Linker name) (bound_of L name)) None) (sym c.if-contains.false ∙ c.contains.ensures)
    ∙ (line_among L c.args.names.now c.requires name ∙ sym (means_linker L name (search rules)))

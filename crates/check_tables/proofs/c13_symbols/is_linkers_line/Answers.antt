use Rattle.std.proofs.Common.{◌≡◌, None, Option, Some, ap, cond, refl, sym, ◌∙◌}
use Rattle.std.specs.Prelude.{option_map}
use Rattle.std.proofs.lemmas.Bool.{false≢true}
use Rattle.std.proofs.lemmas.Option.{none-some}
use Rattle.std.proofs.lemmas.Bool.Decides.{Decides-eqb}
use Rattle.elf_model.proofs.LinkerUses.{line_among}
use Rattle.elf_model.specs.Link.LinkerNames.{bound_of}
use Rattle.elf_model.specs.Link.LinkerValues.{bound_value}
use Rattle.elf_model.specs.Link.Listing.{linker_line}
use Rattle.linkmap.specs.Borrowed.{symbol_row}
use Rattle.elf_model.specs.Link.Meaning.{Linker, Meaning}
use Rattle.elf_model.specs.Image.RightLink.{symbol_row_of}
use Rattle.check_tables.proofs.SymbolLines.{linkers_row}
use Rattle.check_tables.proofs.c13_symbols.is_linkers_line.Goals as goal

pub returns-then-not-contains : goal.returns-then-not-contains
returns-then-not-contains c =
    let L = c.args.bindings.now.objects in
    let name = c.args.line.now.name.now in
    let absent = sym c.contains.ensures ∙ c.if-not-contains.true in
    let none : linker_line L name ≡ None =
    sym (line_among L c.args.names.now c.requires name)
    ∙ ap (λ b. cond {A = Option Meaning} b (option_map (Linker name) (bound_of L name)) None) absent in (
      λ t. absurd (false≢true t),
      λ e. absurd (none-some _ (sym (ap (option_map (symbol_row_of c.args.bindings.now.places)) none) ∙ e)),
    )

pub returns-then-is_linkers : goal.returns-then-is_linkers
returns-then-is_linkers c =
    let L = c.args.bindings.now.objects in
    let w = c.args.bindings.now.places in
    let line = c.args.line.now in
    let name = line.name.now in
    let there = sym c.contains.ensures ∙ c.if-not-contains.false in
    let bound : bound_of L name ≡ Some c.in-Some.bound = sym c.bound_of.ensures ∙ c.in-Some.is in
    let is : linker_line L name ≡ Some (Linker name c.in-Some.bound) =
    sym (line_among L c.args.names.now c.requires name)
    ∙ ap (λ b. cond {A = Option Meaning} b (option_map (Linker name) (bound_of L name)) None) there
    ∙ ap (option_map (Linker name)) bound in
    let at : c.bound.result ≡ bound_value w name c.in-Some.bound = c.bound.ensures in
    let row = linkers_row w name c.in-Some.bound (symbol_row line) refl (c.is_linkers.ensures.0 c.if-is_linkers.true) in
    let same = ap (option_map (symbol_row_of w)) is in (
      λ t. same ∙ row.0 ((Decides-eqb line.address c.bound.result).0 t ∙ at),
      λ e. (Decides-eqb line.address c.bound.result).1 (row.1 (sym same ∙ e) ∙ sym at),
    )

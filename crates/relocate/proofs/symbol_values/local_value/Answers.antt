use Rattle.std.proofs.Common.{◌≡◌, ◌%◌, ◌^◌, ◌∙◌, ap, refl, sym}
use Rattle.elf_model.specs.Link.Placement.{symbol_value}
use Rattle.elf_model.specs.Link.Relocation.{symbol_at}
use Rattle.elf_model.specs.Link.Resolution.{SymbolOf, is_undefined}
use Rattle.search.specs.Views.{loaded_view}
use Rattle.relocate.specs.Values.{where_in}
use Rattle.relocate.proofs.LocalReferences.{no_value, own_value}
use Rattle.relocate.proofs.symbol_values.local_value.Goals as goal

pub returns-then-is_undefined : goal.returns-then-is_undefined
returns-then-is_undefined c =
    let s : SymbolOf = symbol_at c.args.number (loaded_view c.args.loaded.now) c.args.j in
    let own : is_undefined s.entry ≡ is_undefined c.unnamed_at-symbol.result.entry =
    sym (ap (λ (t : SymbolOf). is_undefined t.entry) c.unnamed_at-symbol.ensures) in
    no_value c.args.resolved.now s c.requires (own ∙ sym c.if-is_undefined.ensures) (where_in c.args.placement.now) _ refl refl

pub returns : goal.returns
returns c =
    let s : SymbolOf = symbol_at c.args.number (loaded_view c.args.loaded.now) c.args.j in
    let w = where_in c.args.placement.now in
    let own : is_undefined s.entry ≡ is_undefined c.unnamed_at-symbol.result.entry =
    sym (ap (λ (t : SymbolOf). is_undefined t.entry) c.unnamed_at-symbol.ensures) in
    own_value c.args.resolved.now s c.requires (own ∙ sym c.if-is_undefined.ensures) w _
    (c.symbol_value.ensures ∙ ap (λ (t : SymbolOf). symbol_value w.placed t % 2 ^ 64) c.unnamed_at-symbol.ensures)
    (c.symbol_size.ensures ∙ ap (λ (t : SymbolOf). t.entry.st_size % 2 ^ 64) c.unnamed_at-symbol.ensures)

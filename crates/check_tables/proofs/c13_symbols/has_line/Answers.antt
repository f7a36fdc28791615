use Rattle.std.proofs.Common.{◌≡◌, ◌∙◌, Bool, ap, find, option_map, sym}
use Rattle.std.specs.Str.{bytes_eq}
use Rattle.elf_model.specs.Image.MapRecord.{SymbolRow}
use Rattle.elf_model.specs.Image.RightLink.{Subject, objects_of, symbol_row_of, where_of}
use Rattle.elf_model.specs.Link.Listing.{listed}
use Rattle.linkmap.specs.Borrowed.{symbol_row}
use Rattle.check_link.specs.Views.{meaning_view}
use Rattle.check_relocs.specs.Bindings.{Bound}
use Rattle.check_tables.proofs.c13_symbols.has_line.Goals as goal

pub returns : goal.returns
returns c =
    let s = c.args.bound.now in
    let named : SymbolRow → Bool = λ row. bytes_eq row.name c.args.name.now in
    let means = option_map meaning_view c.args.meaning.now in
    let told : find named s.map.symbols ≡ option_map symbol_row c.line_named-line.result =
    sym (ap (λ (t : Subject). find named t.map.symbols) (c.link.view_is ∙ c.link-link.ensures)) ∙ sym c.line_named-line.ensures in
    let wanted : option_map (symbol_row_of c.bindings.result.now.places) means ≡ option_map (symbol_row_of (where_of s)) (listed (objects_of s) c.args.name.now) =
    ap (λ (b : Bound). option_map (symbol_row_of b.places) means) c.bindings.ensures ∙ ap (option_map (symbol_row_of (where_of s))) c.requires in (
      λ t. told ∙ (c.is_line_of_some.ensures.0 t ∙ wanted),
      λ h. c.is_line_of_some.ensures.1 (sym told ∙ (h ∙ sym wanted)),
    )

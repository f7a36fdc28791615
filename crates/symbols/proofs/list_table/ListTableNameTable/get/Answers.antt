use Rattle.std.proofs.Common.{◌∙◌, ap, sym}
use Rattle.symbols.specs.Lists.{NamedRow, place_in, row_in}
use Rattle.std.specs.Prelude.{List}
use Rattle.symbols.proofs.NameRows.{place_none, row_found}
use Rattle.symbols.proofs.list_table.ListTableNameTable.get.Goals as goal

pub returns-in_err-place : goal.returns-in_err-place
returns-in_err-place c =
    let rows = c.self.inside.rows.items in
    let name = c.args.name.now in
    let place = sym (c.in_err-place.ensures ∙ ap (λ es. place_in es name) c.deref.ensures.value) in
    c.from_residual.ensures ∙ sym (place_none rows name place) ∙ ap (λ (es : List NamedRow). row_in es name) c.self.view_is

pub returns : goal.returns
returns c =
    let rows = c.self.inside.rows.items in
    let name = c.args.name.now in
    let place = sym (c.in_ok-place.ensures ∙ ap (λ es. place_in es name) c.deref.ensures.value) in
    sym (row_found rows name c.in_ok-place.place c.index.result.now place c.index.ensures)
    ∙ ap (λ (es : List NamedRow). row_in es name) c.self.view_is

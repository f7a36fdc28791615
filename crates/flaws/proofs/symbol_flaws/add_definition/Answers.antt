use Rattle.std.proofs.Common.{◌≡◌, ◌∙◌, ℕ, List, Bool, true, ap, inl, inr, refl, rules}
use Rattle.std.specs.Prelude.{unwrap_or}
use Rattle.elf_model.specs.Link.Resolution.{is_strong, symbol_of}
use Rattle.search.specs.Views.{loaded_view, loaded_views}
use Rattle.symbols.specs.Rows.{no_row}
use Rattle.flaws.proofs.Twins.{no_twins, twins}
use Rattle.flaws.proofs.symbol_flaws.add_definition.Goals as goal

pub returns-then-not-is_twice : goal.returns-then-not-is_twice
returns-then-not-is_twice g c =
    let rows = g.T.NameTable.rows c.args.table.now in
    let told = c.is_twice.ensures ∙ ap (λ (n : List ℕ). (unwrap_or (rows n) no_row).twice) c.symbol_name.ensures in
    inl (λ twin. no_twins (loaded_views c.args._objects.now) rows _ c.is_twice.result c.requires told c.if-not-is_twice.true twin.1, refl)

pub returns : goal.returns
returns g c =
    let rows = g.T.NameTable.rows c.args.table.now in
    let told = c.is_twice.ensures ∙ ap (λ (n : List ℕ). (unwrap_or (rows n) no_row).twice) c.symbol_name.ensures in
    let strong : is_strong (symbol_of c.args.object (loaded_view c.args.one.now) c.args.j c.args.entry.now) ≡ true = search rules in
    inr ((strong, twins (loaded_views c.args._objects.now) rows _ c.is_twice.result c.requires told c.if-not-is_twice.false), c.in_ok-push.ensures.items)

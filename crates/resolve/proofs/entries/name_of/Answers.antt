use Rattle.std.proofs.Common.{◌∙◌, ℕ, ap, sym}
use Rattle.search.specs.Numbers.{name_number}
use Rattle.search.specs.Views.{loaded_view}
use Rattle.resolve.proofs.NamedNumbers.{name_told}
use Rattle.resolve.proofs.entries.name_of.Goals as goal

pub returns-in-Some : goal.returns-in-Some
returns-in-Some c =
    let l = c.args.loaded.now in
    c.name.ensures
    ∙ name_told l c.args.number c.args.j (loaded_view c.args.own.now) c.in-Some.named c.name_count-named.ensures.named c.requires
    (sym (ap (λ (k : ℕ). name_number l k c.symbol_ref.result.symbol) c.symbol_ref.ensures.object ∙ ap (λ (j : ℕ). name_number l c.args.number j) c.symbol_ref.ensures.symbol)
    ∙ (sym c.name_number.ensures.number ∙ c.in-Some.is))

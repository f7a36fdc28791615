use Rattle.std.proofs.Common.{◌∙◌, ap, sym}
use Rattle.std.specs.Prelude.{option_map}
use Rattle.resolve.specs.Views.{symbol_view}
use Rattle.resolve.proofs.BlockNames.{never_none}
use Rattle.resolve.proofs.resolved.Resolved.entry.Goals as goal

pub returns-clause-none : goal.returns-clause-none
returns-clause-none c =
    never_none c.args.self.now c.args.name.now (symbol_view c.in_ok-symbol.symbol)
    (sym c.symbol.ensures ∙ ap (option_map symbol_view) c.in_ok-symbol.was) _ c.meant.result c.meant.ensures

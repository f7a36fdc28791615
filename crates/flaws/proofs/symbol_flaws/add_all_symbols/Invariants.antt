use Rattle.std.proofs.Common.{List}
use Rattle.elf_model.specs.Link.Resolution.{all_symbols}
use Rattle.search.specs.Views.{loaded_views}
use Rattle.resolve.proofs.Walks.{symbols_left}
use Rattle.flaws.specs.Flaws.{AddsSymbol, AreAdded}
use Rattle.flaws.specs.declared.flaw.Flaw.{Flaw}
use Rattle.flaws.proofs.symbol_flaws.add_all_symbols.Given as goal

abbrev pub invariant-loop-k : goal.invariant-loop-k
invariant-loop-k g l =
    (end : List Flaw) → AreAdded (AddsSymbol (loaded_views l.objects)) (symbols_left l.k l.objects) l.flaws.items end
    → AreAdded (AddsSymbol (loaded_views l.objects)) (all_symbols (loaded_views l.objects)) l.fn.flaws.items end

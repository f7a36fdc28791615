use Rattle.std.proofs.Common.{List, drop}
use Rattle.elf_model.specs.Link.Resolution.{symbols_from}
use Rattle.search.specs.Views.{loaded_view, loaded_views}
use Rattle.flaws.specs.Flaws.{AddsSymbol, AreAdded}
use Rattle.flaws.specs.declared.flaw.Flaw.{Flaw}
use Rattle.flaws.proofs.symbol_flaws.add_symbols.Given as goal

abbrev pub invariant-loop-j : goal.invariant-loop-j
invariant-loop-j g l =
    (end : List Flaw) → AreAdded (AddsSymbol (loaded_views l.objects)) (symbols_from l.object (loaded_view l.one) l.j (drop l.j l.entries)) l.flaws.items end
    → AreAdded (AddsSymbol (loaded_views l.objects)) (symbols_from l.object (loaded_view l.one) 0 l.entries) l.fn.flaws.items end

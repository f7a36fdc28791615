use Rattle.std.proofs.Common.{drop}
use Rattle.std.specs.Prelude.{All}
use Rattle.elf_model.proofs.Rests.{Left}
use Rattle.elf_model.specs.Link.Resolution.{IsSoundSymbol, symbols_from}
use Rattle.check_load.specs.Views.{loaded_view, loaded_views}
use Rattle.check_link.proofs.symbols.are_sound_in.Given as goal

abbrev pub invariant-loop-j : goal.invariant-loop-j
invariant-loop-j l =
    Left
    (All (IsSoundSymbol (loaded_views l.objects)) (symbols_from l.number (loaded_view l.loaded) 0 l.entries))
    (All (IsSoundSymbol (loaded_views l.objects)) (symbols_from l.number (loaded_view l.loaded) l.j (drop l.j l.entries)))

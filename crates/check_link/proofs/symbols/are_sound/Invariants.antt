use Rattle.std.proofs.Common.{drop}
use Rattle.std.specs.Prelude.{All}
use Rattle.elf_model.proofs.Rests.{Left}
use Rattle.elf_model.specs.Link.Resolution.{AreSoundSymbols, IsSoundSymbol, symbols_of}
use Rattle.check_load.specs.Views.{loaded_views}
use Rattle.check_link.proofs.symbols.are_sound.Given as goal

abbrev pub invariant-loop-k : goal.invariant-loop-k
invariant-loop-k l =
    Left
    (AreSoundSymbols (loaded_views l.objects))
    (All (IsSoundSymbol (loaded_views l.objects)) (symbols_of l.k (drop l.k (loaded_views l.objects))))
